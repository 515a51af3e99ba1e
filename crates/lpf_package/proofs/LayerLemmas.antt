-- The items before the layers' arrays leave lines that they were given.
use Rattle.lpf_package.proofs.Common.{◌≡◌, ℕ, Bool, List, All, pos, Ok, int_lt, LineMay, LinesMay, line_held, rest_has_its_lines, GivesOnly, ok_gives_only, goes_on, then_, option_line, settings_of}
use Rattle.lpf_package.proofs.Common.{Left, Numbered, words, number_at, number, integer, if_clear}
use Rattle.lpf_package.specs.declared.settings.Settings.{Settings}
use Rattle.array_reader.proofs.Forward.{list_held, zeros_held}

module _ (P : Numbered → Type 0) (file : List ℕ) where
  option_held : (left : Left) → All P left.lines → GivesOnly (λ x. All P x.1.lines) (option_line file left)
  unfolding option_line
  option_held left h =
      then_ _ (line_held P file left h) (λ line hl. goes_on (number_at integer file line.0.number (words line.0.bytes)) _
      (λ ilpfcb a. goes_on (number_at number file line.0.number ilpfcb.1) _ (λ hdry b. goes_on (number_at integer file line.0.number hdry.1) _
      (λ nplpf c. if_clear (int_lt (pos 0) nplpf.0) _ _ (λ none. ok_gives_only hl.1)))))

  settings_held : (layers : ℕ) (left : Left) → All P left.lines → GivesOnly (λ x. All P x.1.lines) (settings_of file layers left)
  unfolding settings_of
  settings_held layers left h =
      then_ _ (zeros_held P file layers left h) (λ a ha. then_ _ (zeros_held P file layers a.1 ha) (λ b hb. then_ _ (list_held P number file layers b.1 hb)
      (λ c hc. then_ _ (list_held P integer file layers c.1 hc) (λ d hd. then_ _ (zeros_held P file layers d.1 hd) (λ e he. ok_gives_only he)))))

module _ (may : List ℕ → Type 0) (file : List ℕ) where
  pub option_leaves : (left rest : Left) (x : Bool) → option_line file left ≡ Ok (x, rest) → LinesMay may left → LinesMay may rest
  option_leaves left rest x e h = rest_has_its_lines may x rest e (option_held (LineMay may) file left h.each)

  pub settings_leave : (layers : ℕ) (left rest : Left) (x : Settings) → settings_of file layers left ≡ Ok (x, rest) → LinesMay may left → LinesMay may rest
  settings_leave layers left rest x e h = rest_has_its_lines may x rest e (settings_held (LineMay may) file layers left h.each)
