-- The form of a command that got one more part.
use Rattle.command_line.proofs.Common.{App, HasForm, IfOk, Ok, Err, Result, ap, app_of, false, refl, rule_of, ◌≡◌, ◌∙◌, AddsArg, AddsSubcommand, Rule, with_rule, with_subcommand}
use Rattle.clap.specs.{declared.builder.arg.Arg.Arg, declared.builder.command.Command.Command}
use Rattle.std.specs.declared.alloc.AllocError.{AllocError}

pub argument_added : (rule : Rule) (c : Command) (a : Arg) (r : Result Command AllocError) → rule_of a ≡ rule → a.global ≡ false → IfOk r (AddsArg c a) →
    (form : App) → HasForm form c → IfOk r (HasForm (with_rule form rule))
argument_added rule c a (Ok new) same plain adds form h = record {
  is = adds.shape plain ∙ (ap (λ x. with_rule x (rule_of a)) h.is ∙ ap (with_rule form) same);
  local = adds.globals ∙ rw (h.local, plain) refl;
}
argument_added rule c a (Err e) same plain adds form h = tt

pub subcommand_added : (c sub : Command) (r : Result Command AllocError) → IfOk r (AddsSubcommand c sub) → (top below : App) → HasForm top c →
    HasForm below sub → IfOk r (HasForm (with_subcommand top below.top))
subcommand_added c sub (Ok new) adds top below h s = record {
  is = adds.shape s.local ∙ (ap (λ x. with_subcommand x (app_of sub).top) h.is ∙ ap (λ (x : App). with_subcommand top x.top) s.is);
  local = adds.globals ∙ rw (h.local, s.local) refl;
}
subcommand_added c sub (Err e) adds top below h s = tt
