use Rattle.std.proofs.Common.{◌≡◌, arith, ◌++◌, ◌∷◌, [], ℕ, None, Bool, IsTrue, refl, sym, ◌∙◌, ap, subst}
use Rattle.std.specs.Prelude.{Ok}
use Rattle.voice_units.specs.declared.shapes.Shape.{Shape}
use Rattle.voice_model.specs.declared.calls.Call.TheVariants as calls
use Rattle.voice_model.specs.declared.calls.Reply.{Reply}
use Rattle.crash_laws.specs.Standing.{IsHonest, IsLater}
use Rattle.crash_laws.proofs.Noted.{entries_count}
use Rattle.recovery.specs.declared.parts.Parts.{Parts}
use Rattle.lane_calls.specs.Lanes.{Stands}
use Rattle.playing.specs.Frames.{missing, HoldsBytes}
use Rattle.playing.specs.Lanes.{next_window}
use Rattle.play_queue.specs.Queued.{lane_of}
use Rattle.voice_store.specs.declared.inside.Inside.{Inside}
use Rattle.voice_store.specs.Facts.{entry_of}
use Rattle.voice_store.specs.Feeding.{told}
use Rattle.voice_store.specs.Filled.{IsFilled}
use Rattle.voice_store.specs.Playing.{bytes_by}
use Rattle.voice_store.specs.Stood.{Stood, last_of, tapes_of}
use Rattle.voice_store.proofs.Heard.{stood_looked}
use Rattle.voice_store.proofs.Settled.{shape_of}
use Rattle.voice_store.proofs.Turned.{stood_stands}
use Rattle.voice_store.proofs.Windowed.{looked_by_reads, on_disk}
use Rattle.voice_store.proofs.Served.{holds_after, stood_after_feed, stood_refilled, fed_samples, fed_holds, fed_cause}
use Rattle.voice_store.proofs.Residing.{moved_frames}
use Rattle.voice_store.proofs.inside.Inside.feed_by.Goals as goal

pub feed-requires-clause-runs : goal.feed-requires-clause-runs
feed-requires-clause-runs g c κs within =
    let h = c.requires.stood in
    let disk = g.D.Disk.told c.args.disk.now in
    let s = c.args.self.now in
    let stands = stood_stands h.0 h.1 disk s h.2 in
    (stands.0, h.2.takings, h.2.b, stands.1.runs, shape_of h.0 h.1 disk s h.2 ∙ sym c.shape-shape.ensures)

pub returns-in_err-fed-clause-stood : goal.returns-in_err-fed-clause-stood
returns-in_err-fed-clause-stood g c = λ first t0 stood.
    let s = c.args.self.now in
    let old = g.D.Disk.told c.args.disk.now in
    let new = g.D.Disk.told c.feed.new.disk in
    let laws = g.met.D.Disk g.world.𝓛 g.world.𝓜 g.world.𝓡 ((λ s x. x), (λ x. x), (λ x. x), λ x. x) in
    let made = c.feed.ensures.made in
    let to_new : IsTrue old.honest → IsTrue new.honest = λ h. subst (λ (x : Bool). IsTrue x) (sym made.honest) h in
    let moments : IsTrue old.honest → IsLater old new = λ h. record {
      later = made.later;
      was = record { since = laws.since c.args.disk.now; present = laws.present c.args.disk.now h };
      is = record { since = laws.since c.feed.new.disk; present = laws.present c.feed.new.disk (to_new h) };
    } in
    let most = missing c.shape-shape.result.block s.lanes.frames.resident (next_window c.shape-shape.result.block 0 (lane_of s.lanes.queues c.args.lane)) in
    let after = stood_looked first t0 most old new s (looked_by_reads most old new made) moments stood in
    let same = c.in_err-fed.ensures.err.0 in
    subst (λ (p : Parts). Stood first t0 new (record s { parts = p; lanes = c.feed.new.lanes })) (sym same)
    (stood_refilled first t0 new s c.feed.new.lanes after
    (λ fill pledged takings made b t st. subst (λ (p : Parts). Stands fill pledged takings p c.feed.new.lanes made b t) same (c.in_err-fed.ensures.stays fill pledged takings made b t st))
    (holds_after most old new s (record s { lanes = c.feed.new.lanes }) c.shape-shape.result made c.shape-shape.ensures c.feed.ensures.bytes))

pub returns-clause-samples : goal.returns-clause-samples
returns-clause-samples g c = λ honest first t0 stood.
    let s = c.args.self.now in
    let old = g.D.Disk.told c.args.disk.now in
    let last = last_of first s in
    let shape : c.shape-shape.result ≡ s.journal.shape = c.shape-shape.ensures in
    let standing = stood_stands first t0 old s stood in
    let block = c.shape-shape.result.block in
    let least = c.shape-shape.result.conditions.some_block in
    fed_samples stood.fill s.lanes s.made last (tapes_of s) c.args.lane block None stood.playing.shows (ap (λ (x : Shape). x.block) (shape ∙ sym stood.upright.seated.shape)) (omega (arith, least))
    standing.0 stood.takings stood.b c.feed.new.parts c.feed.new.lanes c.in_ok-fed.fed (c.in_ok-fed.ensures.served stood.fill standing.0 stood.takings s.made stood.b last (tapes_of s) standing.1 standing.2)
    (c.in_ok-fed.ensures.samples honest (bytes_by stood.fill block)
    (on_disk stood.fill c.shape-shape.result old.bytes s.parts.blocks.holders (subst (λ (x : Shape). IsFilled stood.fill x old.bytes s.parts.blocks.holders) (sym shape) (stood.upright.bytes honest).filled))
    (subst (λ (x : Shape). HoldsBytes (bytes_by stood.fill x.block) s.lanes.frames) (sym shape) (stood.playing.bytes honest)))

pub returns-clause-stood : goal.returns-clause-stood
returns-clause-stood g c = λ first t0 stood.
    let s = c.args.self.now in
    let old = g.D.Disk.told c.args.disk.now in
    let new = g.D.Disk.told c.feed.new.disk in
    let laws = g.met.D.Disk g.world.𝓛 g.world.𝓜 g.world.𝓡 ((λ s x. x), (λ x. x), (λ x. x), λ x. x) in
    let made = c.feed.ensures.made in
    let to_old : IsTrue new.honest → IsTrue old.honest = λ h. subst (λ (x : Bool). IsTrue x) made.honest h in
    let to_new : IsTrue old.honest → IsTrue new.honest = λ h. subst (λ (x : Bool). IsTrue x) (sym made.honest) h in
    let moments : IsTrue old.honest → IsLater old new = λ h. record {
      later = made.later;
      was = record { since = laws.since c.args.disk.now; present = laws.present c.args.disk.now h };
      is = record { since = laws.since c.feed.new.disk; present = laws.present c.feed.new.disk (to_new h) };
    } in
    let honest : IsTrue new.honest → IsHonest new = λ h. record { since = laws.since c.feed.new.disk; present = laws.present c.feed.new.disk h } in
    let most = missing c.shape-shape.result.block s.lanes.frames.resident (next_window c.shape-shape.result.block 0 (lane_of s.lanes.queues c.args.lane)) in
    let after = stood_looked first t0 most old new s (looked_by_reads most old new made) moments stood in
    let s' : Inside = record s { parts = c.feed.new.parts; lanes = c.feed.new.lanes; history = c.enter.new.history } in
    let call = calls.Feed c.args.lane None in
    stood_after_feed first t0 new s s' after c.args.caller c.args.lane None tt c.in_ok-fed.fed c.in_ok-fed.ensures.served c.in_ok-fed.ensures.refused
    (record { rest = refl; addresses = c.feed.ensures.addresses; spare_ropes = c.feed.ensures.spare_ropes; spare_pairs = c.feed.ensures.spare_pairs; uses = c.feed.ensures.uses; interests = c.feed.ensures.interests })
    (holds_after most old new s s' c.shape-shape.result made c.shape-shape.ensures c.feed.ensures.bytes)
    (c.enter.ensures.items ∙ ap (λ (r : Reply). s.history.items ++ entry_of c.args.caller call r c.calls.result ∷ []) c.told.ensures ∙ ap (λ (n : ℕ). s.history.items ++ entry_of c.args.caller call (told c.in_ok-fed.fed) n ∷ []) c.calls.ensures)
    (λ reason e. refl) honest (entries_count new)

pub returns-clause-cause : goal.returns-clause-cause
returns-clause-cause g c =
    let h = c.requires.stood in
    let s = c.args.self.now in
    let old = g.D.Disk.told c.args.disk.now in
    let standing = stood_stands h.0 h.1 old s h.2 in
    fed_cause h.2.fill standing.0 h.2.takings h.2.b (last_of h.0 s) (tapes_of s) c.args.lane None s.made c.feed.new.parts c.feed.new.lanes c.in_ok-fed.fed old.faults (g.D.Disk.told c.feed.new.disk).faults
    (c.in_ok-fed.ensures.served h.2.fill standing.0 h.2.takings s.made h.2.b (last_of h.0 s) (tapes_of s) standing.1 standing.2)
    (λ e. c.in_ok-fed.ensures.fault (ap Ok e))

pub returns-clause-holds : goal.returns-clause-holds
returns-clause-holds g c = λ first t0 stood.
    let s = c.args.self.now in
    let old = g.D.Disk.told c.args.disk.now in
    let last = last_of first s in
    let shape : c.shape-shape.result ≡ s.journal.shape = c.shape-shape.ensures in
    let standing = stood_stands first t0 old s stood in
    let block = c.shape-shape.result.block in
    let least = c.shape-shape.result.conditions.some_block in
    fed_holds stood.fill s.lanes s.made last (tapes_of s) c.args.lane block None stood.playing.shows (ap (λ (x : Shape). x.block) (shape ∙ sym stood.upright.seated.shape)) (omega (arith, least))
    standing.0 stood.takings stood.b c.feed.new.parts c.feed.new.lanes c.feed.new.lanes.frames.resident c.in_ok-fed.fed (c.in_ok-fed.ensures.served stood.fill standing.0 stood.takings s.made stood.b last (tapes_of s) standing.1 standing.2)
    c.in_ok-fed.ensures.holds

pub returns-clause-moves : goal.returns-clause-moves
returns-clause-moves g c = λ first t0 stood.
    let s = c.args.self.now in
    let s' : Inside = record s { parts = c.feed.new.parts; lanes = c.feed.new.lanes; history = c.enter.new.history } in
    moved_frames first t0 (g.D.Disk.told c.feed.new.disk) s.lanes.frames.resident s' c.shape-shape.result.block (next_window c.shape-shape.result.block 0 (lane_of s.lanes.queues c.args.lane)) (returns-clause-stood g c first t0 stood) (c.feed.ensures.moves)

pub returns-in_err-fed-clause-moves : goal.returns-in_err-fed-clause-moves
returns-in_err-fed-clause-moves g c = λ first t0 stood.
    let s = c.args.self.now in
    let s' : Inside = record s { parts = c.feed.new.parts; lanes = c.feed.new.lanes } in
    moved_frames first t0 (g.D.Disk.told c.feed.new.disk) s.lanes.frames.resident s' c.shape-shape.result.block (next_window c.shape-shape.result.block 0 (lane_of s.lanes.queues c.args.lane)) (returns-in_err-fed-clause-stood g c first t0 stood) (c.feed.ensures.moves)
