use Rattle.std.proofs.Common.{◌≡◌, ◌++◌, ◌∷◌, [], ℕ, List, Option, Ok, IsTrue, refl, sym, ◌∙◌, ap, subst}
use Rattle.std.specs.Prelude.{IfSome}
use Rattle.voice_model.specs.declared.calls.Why.{Why}
use Rattle.voice_model.specs.declared.calls.Call.TheVariants as calls
use Rattle.voice_model.specs.declared.calls.Reply.TheVariants as replies
use Rattle.crash_laws.specs.Standing.{IsHonest}
use Rattle.crash_laws.proofs.Noted.{entries_count}
use Rattle.record_job.specs.Recording.{Recording}
use Rattle.voice_store.specs.Stood.{Stood, last_of, tapes_of}
use Rattle.voice_store.specs.Facts.{IsFault, entry_of}
use Rattle.voice_store.proofs.Refused.{refused_plain}
use Rattle.voice_store.proofs.Begun.{stood_begun}
use Rattle.voice_store.proofs.inside.Inside.begin.Goals as goal

pub returns-in-Some-clause-plain : goal.returns-in-Some-clause-plain
returns-in-Some-clause-plain g c = λ fault.
    let h = c.requires.stood in
    let s = c.args.self.now in
    let last = last_of h.0 s in
    let refused = sym c.in-Some.is ∙ c.in_ok-refused.ensures.refused last (tapes_of s) h.2.playing.recorded (h.2.upright.seated.shape ∙ sym c.shape-shape.ensures) (c.jobs_on-jobs.ensures h.2.fill s.made last h.2.playing.shows) in
    refused_plain last (tapes_of s) (calls.Begin c.args.lane) c.in-Some.why (sym refused) (subst IsFault c.refuse.ensures.reply fault)

pub returns-in-Some-clause-stood : goal.returns-in-Some-clause-stood
returns-in-Some-clause-stood g c = λ first t0 stood.
    let s = c.args.self.now in
    let last = last_of first s in
    let refused = sym c.in-Some.is ∙ c.in_ok-refused.ensures.refused last (tapes_of s) stood.playing.recorded (stood.upright.seated.shape ∙ sym c.shape-shape.ensures) (c.jobs_on-jobs.ensures stood.fill s.made last stood.playing.shows) in
    let same : c.begin.new.self ≡ s.recordings = subst (λ (o : Option Why). IfSome o (λ _. c.begin.new.self ≡ s.recordings)) c.in-Some.is c.in_ok-refused.ensures.stays in
    c.refuse.ensures.stood first t0 (subst (λ (r : List (Option Recording)). Stood first t0 (g.D.Disk.told c.args.disk.now) (record s { recordings = r })) (sym same) stood) refl (sym refused)

pub returns-in-None-clause-stood : goal.returns-in-None-clause-stood
returns-in-None-clause-stood g c = λ first t0 stood.
    let s = c.args.self.now in
    let d = c.args.disk.now in
    let disk = g.D.Disk.told d in
    let last = last_of first s in
    let shape = stood.upright.seated.shape ∙ sym c.shape-shape.ensures in
    let laws = g.met.D.Disk g.world.𝓛 g.world.𝓜 g.world.𝓡 ((λ s x. x), (λ x. x), (λ x. x), λ x. x) in
    let honest : IsTrue disk.honest → IsHonest disk = λ h. record { since = laws.since d; present = laws.present d h } in
    stood_begun first t0 disk s stood c.args.caller c.args.lane c.begin.new.self c.enter.new.history
    (sym (sym c.in-None.is ∙ c.in_ok-refused.ensures.refused last (tapes_of s) stood.playing.recorded shape (c.jobs_on-jobs.ensures stood.fill s.made last stood.playing.shows)))
    (c.in_ok-refused.ensures.begun last (tapes_of s) stood.playing.recorded shape (ap Ok c.in-None.is))
    (c.enter.ensures.items ∙ ap (λ (n : ℕ). s.history.items ++ entry_of c.args.caller (calls.Begin c.args.lane) replies.Done n ∷ []) c.calls.ensures)
    honest (entries_count disk)
