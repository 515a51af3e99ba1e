-- The first line and LAYCBD leave lines that they were given.
use Rattle.dis_package.proofs.Common.{◌≡◌, ℕ, ◌-◌, ℤ, List, Ok, All, LineMay, LinesMay, Left, Numbered, GivesOnly, line_held, rest_has_its_lines, repeated_held, head_of, Frame, Limits, beds_of}
use Rattle.dis_package.proofs.Common.{frame_of, words, beginning, value_alone, integer, ok_gives_only, goes_on, then_}
use Rattle.array_reader.proofs.Forward.{value_alone_held, zero_held}

module _ (P : Numbered → Type 0) (file : List ℕ) where
  beds_held : (layers : ℕ) (left : Left) → All P left.lines → GivesOnly (λ x. All P x.1.lines) (beds_of file layers left)
  unfolding beds_of
  beds_held layers left h =
      then_ _ (repeated_held (λ s. All P s.1.lines) (value_alone integer file) (value_alone_held P integer file) (layers - 1) (beginning, left) h)
      (λ above ha. then_ _ (zero_held P file above.1 ha) (λ last hl. ok_gives_only hl))

  head_held : (limits : Limits) (left : Left) → All P left.lines → GivesOnly (λ x. All P x.1.lines) (head_of limits file left)
  unfolding head_of
  head_held limits left h =
      then_ _ (line_held P file left h) (λ line hl. goes_on (frame_of limits file line.0.number (words line.0.bytes)) _
      (λ frame e. then_ _ (beds_held frame.size.layers line.1 hl.1) (λ laycbd hb. ok_gives_only hb)))

pub head_leaves : (limits : Limits) (may : List ℕ → Type 0) (file : List ℕ) (left rest : Left) (x : Frame × List ℤ) → head_of limits file left ≡ Ok (x, rest) → LinesMay may left → LinesMay may rest
head_leaves limits may file left rest x e h = rest_has_its_lines may x rest e (head_held (LineMay may) file limits left h.each)
