use Rattle.std.proofs.Common.{ℕ, not, ◌∙◌, ap, subst, refl}
use Rattle.std.specs.Prelude.{filter, List}
use Rattle.voice_model.specs.State.{Durable, with_rows}
use Rattle.voice_model.specs.State.Effect.{Swept}
use Rattle.voice_model.specs.Changes.{changed, is_expired, without_expired}
use Rattle.voice_model.specs.declared.calls.Class.TheVariants.{Until}
use Rattle.voice_model.specs.declared.calls.Row.{Row}
use Rattle.voice_blocks.specs.Holders.{holder_at}
use Rattle.interest_table.specs.Table.{expired_keys}
use Rattle.recovery.specs.Shown.{Shows, rows_without}
use Rattle.recovery.proofs.Sweeping.{expired_are, swept_shown}
use Rattle.recovery.proofs.PlacesFreed.{moved_shown}
use Rattle.ready_changes.proofs.Uses.{uses_stay, stay_in_use, settled_lists}
use Rattle.ready_changes.proofs.performing.sweep.Goals as goal

pub returns-clause-shows : goal.returns-clause-shows
returns-clause-shows c held d h ordered graces going =
    let mid = c.drop_gathered.new.self in
    let rows = filter (λ (row : Row). not (is_expired d.moment row)) d.rows in
    let left = c.drop_gathered.ensures.shows held d (expired_keys d.moment d.rows) h ordered graces going in
    let bare : Shows held mid (without_expired c.args.parts.now.form d) =
    subst (λ rows. Shows held mid (with_rows c.args.parts.now.form 2 d rows)) (expired_are d.moment d.rows ordered.once) left in
    let all = c.remove_ropes.ensures in
    let new = c.remove_ropes.new.self in
    let swept = swept_shown held c.args.parts.now.form d c.args.ropes.now mid.ropes new.ropes mid.interests.rows mid.moment mid.next bare (all.ropes ∙ ap (λ (ids : List ℕ). filter (λ rope. not (Rattle.voice_model.specs.State.among ids rope.id)) mid.ropes.ropes) c.items.ensures) all.block (all.counts held bare.uses) in
    moved_shown held new.ropes mid.interests.rows new.interests.rows mid.moment new.moment mid.next new.next (changed c.args.parts.now.form d (Swept c.args.ropes.now)) swept (ap (λ t. t.rows) all.interests) all.moment all.next

pub returns-clause-blocks : goal.returns-clause-blocks
returns-clause-blocks c held d h ordered graces going used a =
    let old = c.args.parts.now in
    let mid = c.drop_gathered.new.self in
    let left = c.drop_gathered.ensures.shows held d (expired_keys d.moment d.rows) h ordered graces going in
    let blocks = ap (λ b. b.holders) c.drop_gathered.ensures.blocks in
    let after = rows_without Until (expired_keys d.moment d.rows) d.rows in
    let same = uses_stay held old.ropes mid.ropes old.interests.rows mid.interests.rows old.moment mid.moment old.next mid.next d (with_rows old.form 2 d after) h left refl (settled_lists old.form d.moment 2 d.rows after d.ropes) in
    c.remove_ropes.ensures.holders (stay_in_use old.ropes mid.ropes old.blocks.holders mid.blocks.holders blocks same used) a
    ∙ ap (λ hs. Rattle.recovery.specs.Placing.in_use c.remove_ropes.new.self.ropes (holder_at hs a)) blocks
