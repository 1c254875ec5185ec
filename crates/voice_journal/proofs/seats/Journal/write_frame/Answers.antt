use Rattle.std.proofs.Common.{rules, ◌≡◌, ◌∙◌, ◌+◌, ℕ, List, length, take, Bool, sym, ap, subst, arith}
use Rattle.std.specs.Prelude.{IsTrue}
use Rattle.std.proofs.lemmas.List.{with_items_is}
use Rattle.voice_journal.specs.Readings.{frame}
use Rattle.voice_journal.specs.Places.{area_start}
use Rattle.voice_journal.proofs.Steps.{when_ok}
use Rattle.voice_journal.proofs.Commits.{frame_kept, frame_whole}
use Rattle.voice_journal.proofs.seats.Journal.write_frame.Goals as goal

pub returns-clause-kept : goal.returns-clause-kept
returns-clause-kept g c =
    λ honest r stands.
    let j = c.self.inside in
    let p = c.args.payload.now in
    let size : length c.put_frame.new.room ≡ j.room.len = search rules in
    let spelled : take (length p + 5) c.deref.result.now ≡ frame p = ap (λ (l : List ℕ). take (length p + 5) l) (c.deref.ensures.value ∙ with_items_is j.room c.put_frame.new.room size) ∙ c.put_frame.ensures in
    let at : c.start_of.result + c.from.result + 1 ≡ area_start j.shape j.seat.second + j.seat.gate + 1 = omega (arith, c.start_of.ensures.value, c.from.ensures) in
    let laws = g.met.D.Disk g.world.𝓛 g.world.𝓜 g.world.𝓡 ((λ s x. x), (λ x. x), (λ x. x), λ x. x) in
    frame_kept _ _ c.self.view_is _ _ r p _ _ at spelled (search (rules, c.self.view_is)) (laws.present c.args.disk.now honest) stands (c.write_synced.ensures.wrote honest)

pub returns-clause-whole : goal.returns-clause-whole
returns-clause-whole g c =
    λ honest r stands.
    let j = c.self.inside in
    let p = c.args.payload.now in
    let new = g.D.Disk.told c.write_synced.new.disk in
    let size : length c.put_frame.new.room ≡ j.room.len = search rules in
    let spelled : take (length p + 5) c.deref.result.now ≡ frame p = ap (λ (l : List ℕ). take (length p + 5) l) (c.deref.ensures.value ∙ with_items_is j.room c.put_frame.new.room size) ∙ c.put_frame.ensures in
    let at : c.start_of.result + c.from.result + 1 ≡ area_start j.shape j.seat.second + j.seat.gate + 1 = omega (arith, c.start_of.ensures.value, c.from.ensures) in
    let laws = g.met.D.Disk g.world.𝓛 g.world.𝓜 g.world.𝓡 ((λ s x. x), (λ x. x), (λ x. x), λ x. x) in
    let honest_new : IsTrue new.honest = subst (λ (b : Bool). IsTrue b) (sym c.write_synced.ensures.made.honest) honest in
    when_ok c.write_synced.result _ _
    (frame_whole _ _ c.self.view_is _ _ r p _ _ at spelled (search (rules, c.self.view_is)) (laws.present c.args.disk.now honest) stands (c.write_synced.ensures.wrote honest) (laws.present c.write_synced.new.disk honest_new))
    (c.write_synced.ensures.done honest)
