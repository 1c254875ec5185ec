use Rattle.std.proofs.Common.{◌≡◌, ◌∙◌, ap₂}
use Rattle.std.proofs.lemmas.Result.{IfOk-weaker}
use Rattle.clap.specs.Words.{app_of, with_rule}
use Rattle.voice_main.specs.Commands.{bare_app}
use Rattle.voice_main.proofs.Taken.{bare_is}
use Rattle.voice_main.proofs.assigned.format_command.Goals as goal

pub returns : goal.returns
returns c =
    let bare : app_of c.disable_version_flag.result ≡ bare_app = bare_is c.new.result c.disable_help_flag.result c.disable_version_flag.result c.new.ensures.app c.disable_help_flag.ensures c.disable_version_flag.ensures in
    let one = c.in_ok-arg.ensures.shape c.number_option.ensures.local ∙ ap₂ with_rule bare c.number_option.ensures.rule in
    let two = c.in_ok-arg-2.ensures.shape c.number_option-2.ensures.local ∙ ap₂ with_rule one c.number_option-2.ensures.rule in
    let three = c.in_ok-arg-3.ensures.shape c.number_option-3.ensures.local ∙ ap₂ with_rule two c.number_option-3.ensures.rule in
    let four = c.in_ok-arg-4.ensures.shape c.number_option-4.ensures.local ∙ ap₂ with_rule three c.number_option-4.ensures.rule in
    let five = c.in_ok-arg-5.ensures.shape c.bare_option.ensures.local ∙ ap₂ with_rule four c.bare_option.ensures.rule in
    let six = c.in_ok-arg-6.ensures.shape c.bare_option-2.ensures.local ∙ ap₂ with_rule five c.bare_option-2.ensures.rule in
    let seven = c.in_ok-arg-7.ensures.shape c.bare_option-3.ensures.local ∙ ap₂ with_rule six c.bare_option-3.ensures.rule in
    IfOk-weaker c.arg-8.result _ _ (λ r h. h.shape c.number_option-5.ensures.local ∙ ap₂ with_rule seven c.number_option-5.ensures.rule) c.arg-8.ensures
