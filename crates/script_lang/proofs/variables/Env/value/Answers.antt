use Rattle.std.proofs.Common.{ap, ◌∙◌, ℕ, Option}
use Rattle.std.specs.Prelude.{unwrap_or}
use Rattle.voice_model.specs.Follows.{value_of}
use Rattle.script_lang.specs.Bindings.{bindings}
use Rattle.script_lang.proofs.Asking.{value_is}
use Rattle.script_lang.proofs.variables.Env.value.Goals as goal

pub returns-in-Some : goal.returns-in-Some
returns-in-Some c =
    ap (λ (o : Option ℕ). unwrap_or o 0) c.in-Some.ensures.value
    ∙ value_is c.self.inside.ropes.entries c.of.result
    ∙ ap (value_of (bindings c.self.inside.ropes.entries)) c.of.ensures
    ∙ ap (λ b. value_of b c.args.name.now) c.self.view_is

pub returns-in-None : goal.returns-in-None
returns-in-None c =
    ap (λ (o : Option ℕ). unwrap_or o 0) c.in-None.ensures.value
    ∙ value_is c.self.inside.ropes.entries c.of.result
    ∙ ap (value_of (bindings c.self.inside.ropes.entries)) c.of.ensures
    ∙ ap (λ b. value_of b c.args.name.now) c.self.view_is
