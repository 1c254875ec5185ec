use Rattle.std.proofs.Common.{◌≡◌, ◌+◌, ◌++◌, ◌∷◌, [], ℕ, IsTrue, is_some, refl, sym, ◌∙◌, ap, subst}
use Rattle.voice_model.specs.declared.calls.Call.TheVariants as calls
use Rattle.voice_model.specs.declared.calls.Reply.TheVariants as replies
use Rattle.crash_laws.specs.Standing.{IsHonest}
use Rattle.crash_laws.proofs.Noted.{entries_count}
use Rattle.lane_calls.specs.Answers.{IsPlayed, IsJob, StaysRefused}
use Rattle.lane_calls.specs.declared.outcomes.Played.{Played}
use Rattle.lane_calls.proofs.HeldAgain.{few_held}
use Rattle.voice_store.specs.declared.inside.Inside.{Inside}
use Rattle.voice_store.specs.Stood.{last_of, tapes_of}
use Rattle.voice_store.specs.Facts.{IsFault, entry_of}
use Rattle.voice_store.proofs.Refused.{refused_plain}
use Rattle.voice_store.proofs.Turned.{stood_stands}
use Rattle.voice_store.proofs.Queued.{Answers, stood_unmoved, stood_queued}
use Rattle.voice_store.proofs.inside.Inside.play.Goals as goal

pub play-requires-clause-runs : goal.play-requires-clause-runs
play-requires-clause-runs g c =
    let h = c.requires.stood in
    let stands = stood_stands h.0 h.1 (g.D.Disk.told c.args.disk.now) c.args.self.now h.2 in
    (stands.0, h.2.takings, h.2.b, stands.1.runs)

pub play-requires-clause-few : goal.play-requires-clause-few
play-requires-clause-few g c =
    let h = c.requires.stood in
    let s = c.args.self.now in
    few_held h.2.fill s.lanes s.made (last_of h.0 s) h.2.playing.shows h.2.upright.valid

pub returns-in-Refused-clause-plain : goal.returns-in-Refused-clause-plain
returns-in-Refused-clause-plain g c = λ fault.
    let h = c.requires.stood in
    let s = c.args.self.now in
    let last = last_of h.0 s in
    let stands = stood_stands h.0 h.1 (g.D.Disk.told c.args.disk.now) s h.2 in
    let p = c.args.passage in
    let call = calls.Play p.lane p.rope p.start p.len in
    let refused = subst (λ (x : Played). IsPlayed h.2.fill stands.0 h.2.takings h.2.b last (tapes_of s) call s.made c.play.new.parts c.play.new.lanes x) c.in-Refused.is
    (c.in_ok-played.ensures.played h.2.fill stands.0 h.2.takings h.2.b last (tapes_of s) stands.1 (sym (c.is_open-recording.ensures.shown last h.2.playing.recorded))) in
    refused_plain last (tapes_of s) call c.in-Refused.why refused (subst IsFault c.refuse.ensures.reply fault)

pub returns-in-Refused-clause-stood : goal.returns-in-Refused-clause-stood
returns-in-Refused-clause-stood g c = λ first t0 stood.
    let s = c.args.self.now in
    let disk = g.D.Disk.told c.args.disk.now in
    let last = last_of first s in
    let stands = stood_stands first t0 disk s stood in
    let p = c.args.passage in
    let call = calls.Play p.lane p.rope p.start p.len in
    let refused = subst (λ (x : Played). IsPlayed stood.fill stands.0 stood.takings stood.b last (tapes_of s) call s.made c.play.new.parts c.play.new.lanes x) c.in-Refused.is
    (c.in_ok-played.ensures.played stood.fill stands.0 stood.takings stood.b last (tapes_of s) stands.1 (sym (c.is_open-recording.ensures.shown last stood.playing.recorded))) in
    let same = subst (λ (x : Played). StaysRefused s.parts s.lanes c.play.new.parts c.play.new.lanes x) c.in-Refused.is c.in_ok-played.ensures.refused in
    c.refuse.ensures.stood first t0 (stood_unmoved first t0 disk s c.play.new.parts c.play.new.lanes same.0 same.1 stood) refl refused

pub returns-in-Job-clause-stood : goal.returns-in-Job-clause-stood
returns-in-Job-clause-stood g c = λ first t0 stood.
    let s = c.args.self.now in
    let d = c.args.disk.now in
    let disk = g.D.Disk.told d in
    let last = last_of first s in
    let p = c.args.passage in
    let call = calls.Play p.lane p.rope p.start p.len in
    let reply = replies.Job c.in-Job.id in
    let s' : Inside = record s { parts = c.play.new.parts; lanes = c.play.new.lanes; made = s.made + 1; history = c.enter.new.history } in
    let laws = g.met.D.Disk g.world.𝓛 g.world.𝓜 g.world.𝓡 ((λ s x. x), (λ x. x), (λ x. x), λ x. x) in
    let honest : IsTrue disk.honest → IsHonest disk = λ h. record { since = laws.since d; present = laws.present d h } in
    let answered : Answers first t0 disk s s' stood c.args.caller call reply = λ pledged takings st are.
    (subst (λ (x : Played). IsPlayed stood.fill pledged takings stood.b last (tapes_of s) call s.made c.play.new.parts c.play.new.lanes x) c.in-Job.is
    (c.in_ok-played.ensures.played stood.fill pledged takings stood.b last (tapes_of s) st (sym (c.is_open-recording.ensures.shown last stood.playing.recorded)))).1 in
    let items : s'.history.items ≡ s.history.items ++ entry_of c.args.caller call reply disk.calls ∷ [] =
    c.enter.ensures.items ∙ ap (λ (n : ℕ). s.history.items ++ entry_of c.args.caller call reply n ∷ []) c.calls.ensures in
    stood_queued first t0 disk s s' stood c.args.caller p.lane p.rope p.start p.len reply answered refl items
    (c.in_ok-played.ensures.few (subst IsJob (sym c.in-Job.is) tt)) c.play.ensures.frames c.play.ensures.blocks c.play.ensures.interests c.play.ensures.spare_ropes c.play.ensures.spare_pairs
    honest (entries_count disk)
