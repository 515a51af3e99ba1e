-- The items before the layers' arrays leave lines that they were given.
use Rattle.convertible_reader.proofs.Common.{All, Bool, GivesOnly, LayerSettings, Left, LineMay, LinesMay, List, Numbered, Ok, Taking, beginning, changes_vertical, goes_on, if_clear, int_lt, integer}
use Rattle.convertible_reader.proofs.Common.{laytyp_at, laytyp_list, number, number_at, ok_gives_only, option_line, pos, settings_of, then_, words, ℕ, ◌&&◌, ◌||◌, ◌≡◌, line_held, rest_has_its_lines}
use Rattle.convertible_reader.proofs.Common.{repeated_held}
use Rattle.convertible_reader.specs.declared.settings.Options.{Options}
use Rattle.array_reader.proofs.Forward.{list_held, value_at_held, zeros_held}

module _ (P : Numbered → Type 0) (file : List ℕ) where
  option_held : (left : Left) → All P left.lines → GivesOnly (λ x. All P x.1.lines) (option_line file left)
  unfolding option_line
  option_held left h =
      then_ _ (line_held P file left h) (λ line hl. goes_on (number_at integer file line.0.number (words line.0.bytes)) _
      (λ ilpfcb a. goes_on (number_at number file line.0.number ilpfcb.1) _ (λ hdry b. goes_on (number_at integer file line.0.number hdry.1) _
      (λ nplpf c. if_clear (int_lt (pos 0) nplpf.0 || changes_vertical line.0.bytes) _ _ (λ none. ok_gives_only hl.1)))))

  laytyp_held : (thickstrt : Bool) (s : Taking × Left) → All P s.1.lines → GivesOnly (λ x. All P x.1.1.lines) (laytyp_at thickstrt file s)
  unfolding laytyp_at
  laytyp_held thickstrt s h = then_ _ (value_at_held P integer file s h) (λ z hz. if_clear (thickstrt && int_lt z.0.0 (pos 0)) _ _ (λ e. ok_gives_only hz))

  laytyps_held : (thickstrt : Bool) (count : ℕ) (left : Left) → All P left.lines → GivesOnly (λ x. All P x.1.lines) (laytyp_list thickstrt file count left)
  unfolding laytyp_list
  laytyps_held thickstrt count left h =
      then_ _ (repeated_held (λ s. All P s.1.lines) (laytyp_at thickstrt file) (laytyp_held thickstrt) count (beginning, left) h) (λ x hx. ok_gives_only hx)

  settings_held : (thickstrt : Bool) (layers : ℕ) (left : Left) → All P left.lines → GivesOnly (λ x. All P x.1.lines) (settings_of file thickstrt layers left)
  unfolding settings_of
  settings_held thickstrt layers left h =
      then_ _ (laytyps_held thickstrt layers left h) (λ a ha. then_ _ (zeros_held P file layers a.1 ha) (λ b hb. then_ _ (list_held P number file layers b.1 hb)
      (λ c hc. then_ _ (list_held P integer file layers c.1 hc) (λ d hd. then_ _ (zeros_held P file layers d.1 hd) (λ e he. ok_gives_only he)))))

module _ (may : List ℕ → Type 0) (file : List ℕ) where
  pub option_leaves : (left rest : Left) (x : Options) → option_line file left ≡ Ok (x, rest) → LinesMay may left → LinesMay may rest
  option_leaves left rest x e h = rest_has_its_lines may x rest e (option_held (LineMay may) file left h.each)

  pub settings_leave : (thickstrt : Bool) (layers : ℕ) (left rest : Left) (x : LayerSettings) → settings_of file thickstrt layers left ≡ Ok (x, rest) →
      LinesMay may left → LinesMay may rest
  settings_leave thickstrt layers left rest x e h = rest_has_its_lines may x rest e (settings_held (LineMay may) file thickstrt layers left h.each)
