use Rattle.std.proofs.Common.{[], ◌≡◌, refl, sym, ◌∙◌, ap, subst, arith, ◌≤◌}
use Rattle.voice_units.specs.Spots.{spots_from}
use Rattle.voice_model.specs.Samples.{spot_of, spots_in_rope}
use Rattle.voice_model.specs.Replay.{durable_by}
use Rattle.mirror_sender.specs.Coming.{IsNextOf, HasRoom, CanBeDone, bytes_taken}
use Rattle.mirror_sender.proofs.Performed.{in_order, same_graces, common, unknown, above, fits, edit_pairs, voice_pairs, told_after, edit_shown, voice_shown, other_shown}
use Rattle.mirror_sender.proofs.performing.perform.Goals as goal

pub add_rope-requires : goal.add_rope-requires
add_rope-requires c =
    let parts = c.args.parts.now in
    let can = c.requires.can in
    let is = subst (λ n. IsNextOf can.0 can.1 parts.interests.spare n can.2) c.in-Edit.is can.3.is in
    let room = subst (λ n. HasRoom parts n) c.in-Edit.is c.requires.room in
    record {
      unknown = unknown can.0 can.1 c.args.shape.now parts c.args.next can.2 can.3;
      room = room.ropes;
      pairs = edit_pairs can.0 can.1 c.args.shape.now parts c.args.next can.2 can.3 c.in-Edit.pieces is room;
      fits = λ pair e. fits can.0 can.1 c.args.shape.now parts c.args.next can.2 can.3 0 room pair;
    }

pub returns-in-Edit-clause-told : goal.returns-in-Edit-clause-told
returns-in-Edit-clause-told c = λ own tapes effect can.
    let parts = c.args.parts.now in
    let is = subst (λ n. IsNextOf own tapes parts.interests.spare n effect) c.in-Edit.is can.is in
    told_after own parts c.add_rope.new.self effect can.told can.fit
    (edit_shown own parts c.add_rope.new.self c.in-Edit.pieces effect is can.told.shows.next
    (c.add_rope.ensures.shows [] parts.form (durable_by spot_of own) (spots_in_rope is.samples) can.told.shows (in_order own tapes c.args.shape.now parts c.args.next effect can) (above own tapes c.args.shape.now parts c.args.next effect can) is.same (common own tapes c.args.shape.now parts c.args.next effect can)))
    c.add_rope.ensures.form

pub add_rope-requires-in-Voice : goal.add_rope-requires-in-Voice
add_rope-requires-in-Voice c =
    let parts = c.args.parts.now in
    let can = c.requires.can in
    let is = subst (λ n. IsNextOf can.0 can.1 parts.interests.spare n can.2) c.in-Voice.is can.3.is in
    let room = subst (λ n. HasRoom parts n) c.in-Voice.is c.requires.room in
    record {
      unknown = unknown can.0 can.1 c.args.shape.now parts c.args.next can.2 can.3;
      room = room.ropes;
      pairs = voice_pairs can.0 can.1 c.args.shape.now parts c.args.next can.2 can.3 c.in-Voice.pieces c.in-Voice.field-1.items is room;
      fits = λ pair e. fits can.0 can.1 c.args.shape.now parts c.args.next can.2 can.3 _ room pair;
    }

pub returns-in-Voice-clause-told : goal.returns-in-Voice-clause-told
returns-in-Voice-clause-told c = λ own tapes effect can.
    let parts = c.args.parts.now in
    let is = subst (λ n. IsNextOf own tapes parts.interests.spare n effect) c.in-Voice.is can.is in
    let new = c.add_rope-in-Voice.new.self in
    told_after own parts new effect can.told can.fit
    (voice_shown own tapes parts new c.in-Voice.pieces c.in-Voice.field-1.items effect is can.told.shows.next
    (c.add_rope-in-Voice.ensures.shows [] parts.form (durable_by spot_of own) _ can.told.shows (in_order own tapes c.args.shape.now parts c.args.next effect can) (above own tapes c.args.shape.now parts c.args.next effect can) is.same (common own tapes c.args.shape.now parts c.args.next effect can)))
    c.add_rope-in-Voice.ensures.form

pub perform-requires : goal.perform-requires
perform-requires c =
    let parts = c.args.parts.now in
    let can = c.requires.can in
    ([], durable_by spot_of can.0, _, can.3.told.shows, subst (λ n. IsNextOf can.0 can.1 parts.interests.spare n can.2) c.in-Other.is can.3.is)

pub returns-clause-told : goal.returns-clause-told
returns-clause-told c = λ own tapes effect can.
    let parts = c.args.parts.now in
    let is = subst (λ n. IsNextOf own tapes parts.interests.spare n effect) c.in-Other.is can.is in
    let new = c.perform.new.parts in
    told_after own parts new effect can.told can.fit
    (other_shown own parts new c.in-Other.ready effect is
    (c.perform.ensures.shows [] (durable_by spot_of own) _ can.told.shows (in_order own tapes c.args.shape.now parts c.args.next effect can) (same_graces own tapes c.args.shape.now parts c.args.next effect can) is))
    c.perform.ensures.form
