use Rattle.std.proofs.Common.{refl, ◌∙◌, sym, subst, ap, min}
use Rattle.voice_units.specs.declared.pieces.Piece.{Piece}
use Rattle.std.specs.Prelude.{List}
use Rattle.playing.proofs.Windowing.{IsWindowing, windowing_none, windowing_more, windowing_ends}
use Rattle.playing.proofs.windows.window_of.Goals as goal

pub loop-k-init : goal.loop-k-init
loop-k-init c =
    subst (λ (now : List Piece). IsWindowing c.args.block c.args.passage.now c.args.heard 0 c.min-at.result now) (sym c.in_ok-window.ensures.items)
    (windowing_none c.args.block c.args.passage.now c.args.heard c.min-at.result (c.min-at.ensures ∙ ap (min c.args.heard) c.length.ensures.value))

pub loop-k-preserved : goal.loop-k-preserved
loop-k-preserved c = windowing_more c.args.block c.args.passage.now c.args.heard c.loop-k.k c.loop-k.at c.loop-k.window.items c.push.new.self.items c.in-Some.stretch c.loop-k-test.true c.in-Some.ensures.first c.in_ok-push.ensures.items c.loop-k.invariant

pub returns-in_default : goal.returns-in_default
returns-in_default c = windowing_ends c.args.block c.args.passage.now c.args.heard c.loop-k.k c.loop-k.at c.loop-k.window.items (c.in_default.ensures.none.0 refl) c.loop-k.invariant
