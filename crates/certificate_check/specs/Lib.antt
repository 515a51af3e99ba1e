pub mod Certificates
pub use Rattle.certificate_check.specs.Certificates.{CertificateEncloses, CertificateExcludesRefusal, ClampedPairEncloses, FailsOnlyWhereCut, HoldsAt, IfNo}
pub use Rattle.certificate_check.specs.Certificates.{IsFirstFailing, IsRangeRefusal, IsYes, RangeRefusalIsOne, SettledPairEncloses}
