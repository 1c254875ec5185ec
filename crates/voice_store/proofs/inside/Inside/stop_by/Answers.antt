use Rattle.std.proofs.Common.{◌≡◌, ◌++◌, ◌∷◌, [], ℕ, IsTrue, inl, inr, refl, sym, ◌∙◌, ap, subst}
use Rattle.voice_model.specs.declared.calls.Call.TheVariants as calls
use Rattle.voice_model.specs.declared.calls.Reply.TheVariants as replies
use Rattle.crash_laws.specs.Standing.{IsHonest}
use Rattle.crash_laws.proofs.Noted.{entries_count}
use Rattle.playing.specs.Lanes.{LanesState}
use Rattle.lane_calls.specs.Answers.{IsAnswered}
use Rattle.voice_store.specs.declared.inside.Inside.{Inside}
use Rattle.voice_store.specs.Stood.{last_of, tapes_of}
use Rattle.voice_store.specs.Facts.{IsFault, entry_of}
use Rattle.voice_store.proofs.Refused.{refused_plain}
use Rattle.voice_store.proofs.Turned.{stood_stands}
use Rattle.voice_store.proofs.Queued.{Answers, stood_unmoved, stood_stopped}
use Rattle.voice_store.proofs.inside.Inside.stop_by.Goals as goal

pub stop-requires-clause-held : goal.stop-requires-clause-held
stop-requires-clause-held g c =
    let h = c.requires.stood in
    (stood_stands h.0 h.1 (g.D.Disk.told c.args.disk.now) c.args.self.now h.2).1.runs.kept.uses

pub returns-in-Err-clause-plain : goal.returns-in-Err-clause-plain
returns-in-Err-clause-plain g c = λ fault.
    let h = c.requires.stood in
    let s = c.args.self.now in
    let last = last_of h.0 s in
    let stands = stood_stands h.0 h.1 (g.D.Disk.told c.args.disk.now) s h.2 in
    let refused = c.in-Err.ensures.stopped h.2.fill stands.0 h.2.takings s.made h.2.b last (tapes_of s) stands.1 stands.2 in
    refused_plain last (tapes_of s) (calls.Stop c.args.lane) c.in-Err.why refused.0 (subst IsFault c.refuse.ensures.reply fault)

pub returns-in-Err-clause-stood : goal.returns-in-Err-clause-stood
returns-in-Err-clause-stood g c = λ first t0 stood.
    let s = c.args.self.now in
    let disk = g.D.Disk.told c.args.disk.now in
    let last = last_of first s in
    let stands = stood_stands first t0 disk s stood in
    let refused = c.in-Err.ensures.stopped stood.fill stands.0 stood.takings s.made stood.b last (tapes_of s) stands.1 stands.2 in
    c.refuse.ensures.stood first t0 (stood_unmoved first t0 disk s c.stop.new.parts c.stop.new.lanes refused.1 refused.2 stood) refl refused.0

pub returns-clause-stood : goal.returns-clause-stood
returns-clause-stood g c = λ first t0 stood.
    let s = c.args.self.now in
    let d = c.args.disk.now in
    let disk = g.D.Disk.told d in
    let last = last_of first s in
    let call = calls.Stop c.args.lane in
    let reply = replies.Number c.from.result in
    let s' : Inside = record s { parts = c.stop.new.parts; lanes = c.stop.new.lanes; history = c.enter.new.history } in
    let laws = g.met.D.Disk g.world.𝓛 g.world.𝓜 g.world.𝓡 ((λ s x. x), (λ x. x), (λ x. x), λ x. x) in
    let honest : IsTrue disk.honest → IsHonest disk = λ h. record { since = laws.since d; present = laws.present d h } in
    let answered : Answers first t0 disk s s' stood c.args.caller call reply = λ pledged takings st are.
    subst (λ n. IsAnswered stood.fill pledged takings stood.b last (tapes_of s) call (replies.Number n) s.made c.stop.new.parts c.stop.new.lanes) (sym c.from.ensures)
    (c.in-Ok.ensures.stopped stood.fill pledged takings s.made stood.b last (tapes_of s) st are) in
    let items : s'.history.items ≡ s.history.items ++ entry_of c.args.caller call reply disk.calls ∷ [] =
    c.enter.ensures.items ∙ ap (λ (n : ℕ). s.history.items ++ entry_of c.args.caller call reply n ∷ []) c.calls.ensures in
    stood_stopped first t0 disk s s' stood c.args.caller c.args.lane reply answered refl items
    c.stop.ensures.bytes c.stop.ensures.addresses c.stop.ensures.uses c.stop.ensures.interests c.stop.ensures.spare_ropes c.stop.ensures.spare_pairs
    honest (entries_count disk)

pub returns-in-Err-clause-frames : goal.returns-in-Err-clause-frames
returns-in-Err-clause-frames g c = inl (ap (λ (x : Inside). x.lanes.frames.resident) c.refuse.ensures.rest ∙ ap (λ (l : LanesState). l.frames.resident) c.in-Err.ensures.err.1)

pub returns-clause-frames : goal.returns-clause-frames
returns-clause-frames g c = inr c.in-Ok.ensures.forgets
