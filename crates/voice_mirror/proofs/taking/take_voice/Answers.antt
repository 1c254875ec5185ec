use Rattle.std.proofs.Common.{◌≡◌, ℕ, List, None, sym, ap, subst, ◌∙◌}
use Rattle.std.specs.List.{list_all}
use Rattle.std.specs.Prelude.{true, nat_lt}
use Rattle.voice_units.specs.declared.shapes.Shape.{Shape}
use Rattle.voice_mirror.specs.Shown.{MirrorState, Keeps, state_of}
use Rattle.voice_mirror.proofs.Bodies.{below_by}
use Rattle.voice_mirror.proofs.taking.take_voice.Goals as goal

pub returns-in_err-addresses-clause-standing : goal.returns-in_err-addresses-clause-standing
returns-in_err-addresses-clause-standing g c = c.pick.ensures.standing (g.D.Disk.told c.args.disk.now).size c.requires.standing

pub wide-requires-clause-below : goal.wide-requires-clause-below
wide-requires-clause-below g c =
    let what = c.requires.standing.upright.tables in
    let blocks = c.shape-shape.result.blocks in
    subst (λ (l : List ℕ). list_all (λ a. nat_lt a blocks) l ≡ true) (sym c.deref.ensures.value)
    (below_by what.what blocks c.in_ok-addresses.addresses.items (ap (λ (shape : Shape). shape.blocks) (what.in_shape ∙ sym c.shape-shape.ensures)) (c.in_ok-addresses.ensures.free what.what what.shows).free)

pub returns-in_err-change-clause-standing : goal.returns-in_err-change-clause-standing
returns-in_err-change-clause-standing g c = c.pick.ensures.standing (g.D.Disk.told c.args.disk.now).size c.requires.standing

pub returns-in_err-room-clause-standing : goal.returns-in_err-room-clause-standing
returns-in_err-room-clause-standing g c = c.pick.ensures.standing (g.D.Disk.told c.args.disk.now).size c.requires.standing

pub place_voice-requires-clause-standing : goal.place_voice-requires-clause-standing
place_voice-requires-clause-standing g c = λ κs lives. c.pick.ensures.standing (g.D.Disk.told c.args.disk.now).size c.requires.standing

pub returns-clause-takes : goal.returns-clause-takes
returns-clause-takes g c =
    λ honest first from t0 taken keeps.
    c.place_voice.ensures.takes honest first from t0 taken (subst (λ (x : MirrorState). Keeps first from t0 taken None (g.D.Disk.told c.args.disk.now) x) (sym (ap state_of c.pick.ensures.rest)) keeps)
