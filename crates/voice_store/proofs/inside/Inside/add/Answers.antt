use Rattle.std.proofs.Common.{refl, sym, ◌∙◌, subst}
use Rattle.voice_model.specs.declared.calls.Call.TheVariants as calls
use Rattle.voice_store.specs.Stood.{last_of, tapes_of}
use Rattle.voice_store.specs.Facts.{IsFault}
use Rattle.voice_store.proofs.Recorded.{taken_many}
use Rattle.voice_store.proofs.Refused.{refused_plain}
use Rattle.voice_store.proofs.Spare.{free_is_open}
use Rattle.voice_store.proofs.inside.Inside.add.Goals as goal

pub returns-in-Some-clause-cause : goal.returns-in-Some-clause-cause
returns-in-Some-clause-cause g c = λ fault.
    let h = c.requires.stood in
    let s = c.args.self.now in
    let last = last_of h.0 s in
    let refused = c.in-Some.ensures.refused last (tapes_of s) c.args.take h.2.playing.recorded (h.2.upright.seated.shape ∙ sym c.shape-shape.ensures)
    (sym (taken_many (tapes_of s) c.args.take c.requires.take)) (c.free-free.ensures ∙ sym (free_is_open h.0 h.1 (g.D.Disk.told c.args.disk.now) s h.2)) in
    absurd (refused_plain last (tapes_of s) (calls.Add c.args.lane c.args.take) c.in-Some.why (sym refused) (subst IsFault c.refuse.ensures.reply fault))

pub returns-in-Some-clause-stood : goal.returns-in-Some-clause-stood
returns-in-Some-clause-stood g c = λ first t0 stood.
    let s = c.args.self.now in
    let refused = c.in-Some.ensures.refused (last_of first s) (tapes_of s) c.args.take stood.playing.recorded (stood.upright.seated.shape ∙ sym c.shape-shape.ensures)
    (sym (taken_many (tapes_of s) c.args.take c.requires.take)) (c.free-free.ensures ∙ sym (free_is_open first t0 (g.D.Disk.told c.args.disk.now) s stood)) in
    c.refuse.ensures.stood first t0 stood refl (sym refused)

pub add_free-requires-clause-free : goal.add_free-requires-clause-free
add_free-requires-clause-free g c κs within =
    let h = c.requires.stood in
    let s = c.args.self.now in (
      h.0,
      h.1,
      h.2,
      sym (c.in_default.ensures.refused (last_of h.0 s) (tapes_of s) c.args.take h.2.playing.recorded (h.2.upright.seated.shape ∙ sym c.shape-shape.ensures)
          (sym (taken_many (tapes_of s) c.args.take c.requires.take)) (c.free-free.ensures ∙ sym (free_is_open h.0 h.1 (g.D.Disk.told c.args.disk.now) s h.2))),
    )

pub returns-clause-calls : goal.returns-clause-calls
returns-clause-calls g c = λ first t0 stood.
    let s = c.args.self.now in
    c.add_free.ensures.calls first t0 stood
    (sym (c.in_default.ensures.refused (last_of first s) (tapes_of s) c.args.take stood.playing.recorded (stood.upright.seated.shape ∙ sym c.shape-shape.ensures)
    (sym (taken_many (tapes_of s) c.args.take c.requires.take)) (c.free-free.ensures ∙ sym (free_is_open first t0 (g.D.Disk.told c.args.disk.now) s stood))))

pub returns-clause-stood : goal.returns-clause-stood
returns-clause-stood g c = λ first t0 stood.
    let s = c.args.self.now in
    c.add_free.ensures.stood first t0 stood
    (sym (c.in_default.ensures.refused (last_of first s) (tapes_of s) c.args.take stood.playing.recorded (stood.upright.seated.shape ∙ sym c.shape-shape.ensures)
    (sym (taken_many (tapes_of s) c.args.take c.requires.take)) (c.free-free.ensures ∙ sym (free_is_open first t0 (g.D.Disk.told c.args.disk.now) s stood))))
