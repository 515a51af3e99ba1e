use Rattle.outside.proofs.Common.{subst, sym, List, ℕ, IsUtf8, folder_name}
use Rattle.outside.proofs.GoodNames.{folder_name-IsUtf8}
use Rattle.outside.proofs.names.folder_name.Goals as goal

pub unwrap-requires : goal.unwrap-requires
unwrap-requires c =
    let turned : List ℕ → Type 0 = λ bytes. IsUtf8 (folder_name bytes) in
    let asked = subst turned (sym c.as_bytes.ensures.value) (folder_name-IsUtf8 _ c.requires) in
    c.from_utf8.ensures.succeeds (subst IsUtf8 (sym c.in_ok-turned.ensures) asked)
