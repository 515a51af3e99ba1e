pub mod Faces
pub mod Tables
pub mod Pairs
pub use Rattle.zone_flows.specs.Faces.{AreOwnZones, EncloseEveryStep, EncloseExact, ExactFace, Face, HeadsLieWithin, IsWalk, exact_by_kind, exact_fixed}
pub use Rattle.zone_flows.specs.Faces.{exact_flow, exact_link, face_between, faces_by_kind, fixed_faces, is_between, is_exact_between, is_lower_zone}
pub use Rattle.zone_flows.specs.Faces.{link_faces}
unfoldable pub use Rattle.zone_flows.specs.Faces.{cell_faces, exact_cell, exact_faces, exact_from, face_from, faces, flows_between}
pub use Rattle.zone_flows.specs.Pairs.{Returns, flow_or_large, is_small, pair_flow, share}
unfoldable pub use Rattle.zone_flows.specs.Pairs.{each_or_first, zone_flows}
pub use Rattle.zone_flows.specs.Tables.{AreSums, Gains, IsZoneSum, add_flow, faces_in, flow_or_refusal, from_to, kind_faces, no_flows, walk_faces, zone_flow}
unfoldable pub use Rattle.zone_flows.specs.Tables.{plus_flows}
