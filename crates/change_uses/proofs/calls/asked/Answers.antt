use Rattle.std.proofs.Common.{[], ap, subst, sym}
use Rattle.voice_units.specs.declared.shapes.Shape.{Shape}
use Rattle.voice_blocks.specs.Holders.{BlocksView}
use Rattle.recovery.specs.Shown.{ShowsPlaces}
use Rattle.recovery.proofs.Rebuilding.{rebuilds_still}
use Rattle.change_uses.proofs.calls.asked.Goals as goal

pub ask-requires : goal.ask-requires
ask-requires c =
    let h = c.requires.shown in
    record { call = c.requires.call; shown = ([], h.what, record { kept = h.shows.kept; in_form = h.shows.in_form; valid = h.shows.valid }, ap (λ (s : Shape). s.graces) h.in_shape) }

pub returns : goal.returns
returns c =
    let h = c.requires.shown in
    record {
      what = h.what;
      shows = rebuilds_still c.args.parts.now c.ask.new.parts h.what h.shows (c.ask.ensures.same [] h.what.kept h.shows.kept) c.ask.ensures.form
          (subst (λ (v : BlocksView). ShowsPlaces v.holders h.what.shape.blocks h.what.places) (sym c.ask.ensures.blocks) h.shows.places);
      in_shape = h.in_shape;
    }
