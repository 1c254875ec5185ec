use Rattle.std.proofs.Common.{rules, ◌≡◌, ◌∙◌, ◌+◌, ℕ, List, length, take, Bool, true, not, sym, ap, subst}
use Rattle.std.specs.Prelude.{IsTrue}
use Rattle.std.proofs.lemmas.List.{with_items_is}
use Rattle.voice_journal.specs.Spelled.{area_bytes}
use Rattle.voice_journal.specs.Places.{JournalValue, area_start}
use Rattle.voice_journal.specs.Readings.{framed_size}
use Rattle.voice_journal.proofs.Steps.{when_ok}
use Rattle.voice_journal.proofs.Commits.{area_kept, area_whole}
use Rattle.voice_journal.proofs.seats.Journal.write_other.Goals as goal

pub returns-clause-kept : goal.returns-clause-kept
returns-clause-kept g c =
    λ honest r stands.
    let j = c.self.inside in
    let ps = c.args.payloads.now in
    let size : length c.put_area-end.new.room ≡ j.room.len = search rules in
    let spelled : take c.put_area-end.result c.deref.result.now ≡ area_bytes (j.seat.epoch + 1) ps =
    ap (λ (n : ℕ). take n c.deref.result.now) c.put_area-end.ensures.value ∙ ap (λ (l : List ℕ). take (16 + framed_size ps) l) (c.deref.ensures.value ∙ with_items_is j.room c.put_area-end.new.room size) ∙ c.put_area-end.ensures.written in
    let at : c.start_of-start.result + 1 ≡ area_start j.shape (not j.seat.second) + 1 = ap (λ (n : ℕ). n + 1) c.start_of-start.ensures.value in
    let known : j.is_closed ≡ true = ap (λ (v : JournalValue). v.is_closed) c.self.view_is ∙ c.requires.closed in
    area_kept _ _ c.self.view_is known _ _ r ps _ _ at spelled (search (rules, c.self.view_is)) (search (rules, c.self.view_is)) stands (c.write_synced.ensures.wrote honest)

pub returns-clause-whole : goal.returns-clause-whole
returns-clause-whole g c =
    λ honest r stands.
    let j = c.self.inside in
    let ps = c.args.payloads.now in
    let new = g.D.Disk.told c.write_synced.new.disk in
    let size : length c.put_area-end.new.room ≡ j.room.len = search rules in
    let spelled : take c.put_area-end.result c.deref.result.now ≡ area_bytes (j.seat.epoch + 1) ps =
    ap (λ (n : ℕ). take n c.deref.result.now) c.put_area-end.ensures.value ∙ ap (λ (l : List ℕ). take (16 + framed_size ps) l) (c.deref.ensures.value ∙ with_items_is j.room c.put_area-end.new.room size) ∙ c.put_area-end.ensures.written in
    let at : c.start_of-start.result + 1 ≡ area_start j.shape (not j.seat.second) + 1 = ap (λ (n : ℕ). n + 1) c.start_of-start.ensures.value in
    let known : j.is_closed ≡ true = ap (λ (v : JournalValue). v.is_closed) c.self.view_is ∙ c.requires.closed in
    let laws = g.met.D.Disk g.world.𝓛 g.world.𝓜 g.world.𝓡 ((λ s x. x), (λ x. x), (λ x. x), λ x. x) in
    let honest_new : IsTrue new.honest = subst (λ (b : Bool). IsTrue b) (sym c.write_synced.ensures.made.honest) honest in
    when_ok c.write_synced.result _ _
    (area_whole _ _ c.self.view_is known _ _ r ps _ _ at spelled (search (rules, c.self.view_is)) (search (rules, c.self.view_is)) stands (c.write_synced.ensures.wrote honest) (laws.present c.write_synced.new.disk honest_new))
    (c.write_synced.ensures.done honest)
