-- Commands of clap that are built up.
use Rattle.std.proofs.Common.{◌≡◌, ◌∙◌, ◌||◌, ◌&&◌, ◌++◌, ◌∷◌, Bool, List, [], ap, arith, false}
use Rattle.std.proofs.Common.{not, refl, true}
use Rattle.std.proofs.lemmas.Bool.{ne_eqb}
use Rattle.std.specs.Borrow.{Bor}
use Rattle.clap.specs.Adds.{AddsConflicts, AddsRequirements}
use Rattle.clap.specs.Built.{AddsArg, AddsSubcommand}
use Rattle.clap.specs.Walk.{is_empty}
use Rattle.clap.specs.Words.{App, Rule, Text, rule_of, with_rule, with_subcommand}
use Rattle.clap.specs.Simple.{app_of}
use Rattle.clap.specs.declared.builder.arg.Arg.{Arg}
use Rattle.clap.specs.declared.builder.arg.ArgPredicate.{ArgPredicate}
use Rattle.clap.specs.declared.builder.command.Command.{Command}
use Rattle.pb_cli.specs.CommandLine.{HasRule, IsCommand, bound}

neither : (a b c : Bool) → a ≡ (b || c) → b ≡ false → c ≡ false → a ≡ false
neither a b c is left right = is ∙ ap (λ x. x || c) left ∙ right

-- a command with one argument more
pub IsCommand-arg : (old new : Command) (a : Arg) (app : App) (rule : Rule) → IsCommand app old → AddsArg old a new → HasRule rule a → IsCommand (with_rule app rule) new
IsCommand-arg old new a app rule h adds is = (
  adds.shape is.1 ∙ ap (λ (x : App). with_rule x (rule_of a)) h.0 ∙ ap (λ (x : Rule). with_rule app x) is.0,
  neither _ _ _ adds.globals h.1 is.1,
  adds.broken ∙ h.2,
)

-- a command with one subcommand more
pub IsCommand-adds : (old sub new : Command) (a b : App) → IsCommand a old → IsCommand b sub → AddsSubcommand old sub new → IsCommand (with_subcommand a b.top) new
IsCommand-adds old sub new a b h k adds = (
  adds.shape k.1 ∙ ap (λ (x : App). with_subcommand x (app_of sub).top) h.0 ∙ ap (λ (x : App). with_subcommand a x.top) k.0,
  neither _ _ _ adds.globals h.1 k.1,
  neither _ _ _ adds.broken h.2 k.2,
)

is_empty-more : {X : Type 0} (xs : List X) (x : X) → is_empty (xs ++ x ∷ []) ≡ false
is_empty-more [] x = refl
is_empty-more (y ∷ ys) x = ne_eqb _ _ (λ e. omega arith)

second-false : (a b rest : Bool) → b ≡ false → (a && (b && rest)) ≡ false
second-false true b rest is = ap (λ x. x && rest) is
second-false false b rest is = refl

third-false : (a b c rest : Bool) → c ≡ false → (a && (b && (c && rest))) ≡ false
third-false true b c rest is = second-false b c rest is
third-false false b c rest is = refl

-- an argument with a rule on another one more
pub conflicts-bound : (old new : Arg) (rule : Rule) (id : Bor Text) → HasRule rule old → AddsConflicts old new (id ∷ []) → HasRule (bound rule) new
conflicts-bound old new rule id h adds = (
  ap rule_of adds.0 ∙ ap (λ b. record (rule_of old) { is_free = b })
      (second-false (not old.exclusive) (is_empty new.conflicts.items) _ (ap is_empty adds.1 ∙ is_empty-more old.conflicts.items id)) ∙ ap bound h.0,
  ap (λ (a : Arg). a.global) adds.0 ∙ h.1,
)

pub requires-bound : (old new : Arg) (rule : Rule) (x : ArgPredicate × Bor Text) → HasRule rule old → AddsRequirements old new (x ∷ []) → HasRule (bound rule) new
requires-bound old new rule x h adds = (
  ap rule_of adds.0 ∙ ap (λ b. record (rule_of old) { is_free = b })
      (third-false (not old.exclusive) (is_empty old.conflicts.items) (is_empty new.needs.items) _ (ap is_empty adds.1 ∙ is_empty-more old.needs.items x)) ∙ ap bound h.0,
  ap (λ (a : Arg). a.global) adds.0 ∙ h.1,
)
