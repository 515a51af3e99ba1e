use Rattle.std.proofs.Common.{◌≡◌, ◌∙◌, ℕ, List, inl, refl, get_or, map, subst, rules}
use Rattle.std.proofs.lemmas.List.Elements.{Contains-get_or}
use Rattle.outside.specs.{WordsMay, ReadState, MayAsk}
use Rattle.engine.specs.{bytes_asked, files_named}
use Rattle.heads.proofs.main.Goals as goal

-- a folder may be asked for the names that were given to it
given_may : (folder : ReadState) (names : List (List ℕ)) → folder.given ≡ names → WordsMay (MayAsk folder) names
given_may folder names is = subst (WordsMay (MayAsk folder)) is (λ k d lt. inl (get_or folder.given k d, Contains-get_or folder.given k d lt, refl))

pub serve-requires : goal.serve-requires
serve-requires g c = λ k.
    let given : c.new-folder.result.given ≡ files_named (map (λ w. w.now) c.as_slice-4.result.now) =
    rw (c.new-folder.ensures, c.as_slice-3.ensures.value, c.in-Ok-files_asked.ensures.names, c.as_slice-2.ensures.value, c.as_slice-4.ensures.value) refl in
    let limit : c.new-folder.result.limit ≡ bytes_asked (map (λ w. w.now) c.as_slice-4.result.now) =
    rw (c.new-folder.ensures, c.in-Ok-files_asked.ensures.limit, c.as_slice-2.ensures.value, c.as_slice-4.ensures.value) refl in
    (search rules, (search rules, (search rules, (search rules, (given_may c.new-folder.result _ given, λ files agree. agree.0 ∙ limit)))))
