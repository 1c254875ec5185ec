use Rattle.std.proofs.Common.{rules, arith, inr, ◌≡◌, ◌++◌, ◌∷◌, [], ℕ, List, Bool, false, Some, None, IsTrue, refl, sym, ◌∙◌, ap, subst}
use Rattle.std.specs.Prelude.{is_none}
use Rattle.crash_laws.specs.Standing.{IsLater}
use Rattle.crash_laws.specs.Calls.{Lands}
use Rattle.crash_laws.proofs.Landing.{landings_carry}
use Rattle.next_changes.specs.Next.{IsNext}
use Rattle.voice_journal.specs.Places.{JournalValue}
use Rattle.voice_model.specs.declared.calls.Entry.{Entry}
use Rattle.voice_store.specs.declared.inside.Doubted.{Doubted}
use Rattle.voice_store.specs.declared.inside.Inside.{Inside}
use Rattle.voice_store.specs.Stood.{last_of}
use Rattle.voice_store.specs.Facts.{landing_at}
use Rattle.voice_store.proofs.Played.{recorded_still}
use Rattle.voice_store.proofs.Results.{on_ok, on_err}
use Rattle.voice_store.proofs.Settled.{unsure_by, unsure_of, same_doubted, landed_journal, stood_landed, stood_not_landed, ready_in, shape_of}
use Rattle.voice_store.proofs.Counted.{landed_still, landing_two, last_landed}
use Rattle.voice_store.proofs.inside.Inside.settle.Goals as goal

pub returns-then-is_err-clause-stood : goal.returns-then-is_err-clause-stood
returns-then-is_err-clause-stood g c =
    λ first t0 stood.
    let s = c.args.self.now in
    let old = g.D.Disk.told c.args.disk.now in
    let new = g.D.Disk.told c.land.new.disk in
    let laws = g.met.D.Disk g.world.𝓛 g.world.𝓜 g.world.𝓡 ((λ s x. x), (λ x. x), (λ x. x), λ x. x) in
    let made = c.land.ensures.made in
    let to_new : IsTrue old.honest → IsTrue new.honest = λ h. subst (λ (x : Bool). IsTrue x) (sym made.honest) h in
    let moments : IsTrue old.honest → IsLater old new = λ h. record {
      later = made.later;
      was = record { since = laws.since c.args.disk.now; present = laws.present c.args.disk.now h };
      is = record { since = laws.since c.land.new.disk; present = laws.present c.land.new.disk (to_new h) };
    } in
    let failed = sym c.is_err.ensures.value ∙ c.if-is_err.true in
    let some : is_none s.doubt ≡ false = search rules in
    let unsure = unsure_by stood.fill stood.held stood.takings s stood.b stood.after (last_of first s) some stood.tables in
    stood_not_landed first t0 old new s s stood unsure made.later made.size made.honest moments (landings_carry c.foundations.ensures old new) c.land.new.self
    (on_err c.land.result _ failed c.land.ensures.failed_state) c.land.ensures.bytes
    (λ h. ((λ r p stands. on_err c.land.result _ failed (c.land.ensures.failed h r p stands)), c.land.ensures.crash h))

pub take_in-requires : goal.take_in-requires
take_in-requires g c =
    let first = c.requires.stood.0 in
    let t0 = c.requires.stood.1 in
    let stood = c.requires.stood.2 in
    let s = c.args.self.now in
    let done = sym c.is_err.ensures.value ∙ c.if-is_err.false in
    let was : s.doubt ≡ Some c.in-Some.doubted = search rules in
    let unsure = unsure_of stood.fill stood.held stood.takings s stood.b stood.after (last_of first s) c.in-Some.doubted was stood.tables in
    let journal : c.land.new.self ≡ landed_journal s.journal unsure.doubt = on_ok c.land.result _ done c.land.ensures.ok_state unsure.doubt unsure.in_journal in
    ready_in first t0 (g.D.Disk.told c.args.disk.now) s stood unsure c.in-Some.doubted _
    (same_doubted s unsure.doubted c.in-Some.doubted unsure.unsure was) refl (ap (λ (j : JournalValue). j.shape) journal)

pub returns-clause-stood : goal.returns-clause-stood
returns-clause-stood g c =
    λ first t0 stood.
    let s = c.args.self.now in
    let old = g.D.Disk.told c.args.disk.now in
    let new = g.D.Disk.told c.land.new.disk in
    let laws = g.met.D.Disk g.world.𝓛 g.world.𝓜 g.world.𝓡 ((λ s x. x), (λ x. x), (λ x. x), λ x. x) in
    let made = c.land.ensures.made in
    let to_new : IsTrue old.honest → IsTrue new.honest = λ h. subst (λ (x : Bool). IsTrue x) (sym made.honest) h in
    let moments : IsTrue old.honest → IsLater old new = λ h. record {
      later = made.later;
      was = record { since = laws.since c.args.disk.now; present = laws.present c.args.disk.now h };
      is = record { since = laws.since c.land.new.disk; present = laws.present c.land.new.disk (to_new h) };
    } in
    let done = sym c.is_err.ensures.value ∙ c.if-is_err.false in
    let was : s.doubt ≡ Some c.in-Some.doubted = search rules in
    let taken : c.take.new.self ≡ None = search rules in
    let unsure = unsure_of stood.fill stood.held stood.takings s stood.b stood.after (last_of first s) c.in-Some.doubted was stood.tables in
    let same = same_doubted s unsure.doubted c.in-Some.doubted unsure.unsure was in
    let journal : c.land.new.self ≡ landed_journal s.journal unsure.doubt = on_ok c.land.result _ done c.land.ensures.ok_state unsure.doubt unsure.in_journal in
    let rest = c.take_in.ensures.rest in
    let s' : Inside = record c.take_in.new.self { history = c.enter.new.history } in
    let ready = subst (λ (d : Doubted). IsNext stood.held stood.takings s.parts stood.b d.next unsure.change) same unsure.ready in
    let tables = c.take_in.ensures.tables stood.held stood.takings stood.b unsure.change ready (shape_of first t0 old s stood ∙ sym (ap (λ (j : JournalValue). j.shape) journal)) in
    let on_same : c.take_in.new.self.history.items ≡ s.history.items = ap (λ (x : Inside). x.history.items) rest in
    let now : c.calls.result ≡ new.calls = c.calls.ensures in
    let items : s'.history.items ≡ s.history.items ++ landing_at new.calls ∷ [] =
    c.enter.ensures.items ∙ ap (λ (l : List Entry). l ++ landing_at c.calls.result ∷ []) on_same ∙ ap (λ (n : ℕ). s.history.items ++ landing_at n ∷ []) now in
    stood_landed first t0 old new s s' stood unsure made.later made.size made.honest moments (landings_carry c.foundations.ensures old new)
    (ap (λ (x : Inside). x.tapes) rest) items c.land.ensures.bytes c.take_in.ensures.kept (ap (λ (x : Inside). x.journal) rest ∙ journal)
    (recorded_still s s' (last_of first s) (ap (λ (x : Inside). x.recordings) rest) stood.playing.recorded)
    (record { forgot = c.take_in.ensures.lanes; bytes = c.take_in.ensures.bytes; made = ap (λ (x : Inside). x.made) rest }) (ap (λ (x : Inside). x.doubt) rest ∙ taken)
    (c.take_in.ensures.form ∙ ap (λ (d : Doubted). d.form) (sym same)) tables
    (λ h. (
      subst (λ (j : JournalValue). Lands s.journal j old new) (sym (ap (λ (x : Inside). x.journal) rest))
          (λ r p stands. on_ok c.land.result _ done (c.land.ensures.ok h r p stands)),
      c.land.ensures.crash h,
    ))

pub returns-then-is_none-clause-landed : goal.returns-then-is_none-clause-landed
returns-then-is_none-clause-landed g c = λ done first t0 stood.
    let none : c.args.self.now.doubt ≡ None = search rules in
    landed_still first t0 (g.D.Disk.told c.args.disk.now) c.args.self.now stood none

pub returns-then-is_err-clause-calls : goal.returns-then-is_err-clause-calls
returns-then-is_err-clause-calls g c = λ first t0 stood.
    let s = c.args.self.now in
    let some : is_none s.doubt ≡ false = search rules in
    let unsure = unsure_by stood.fill stood.held stood.takings s stood.b stood.after (last_of first s) some stood.tables in
    let two = landing_two stood.fill stood.held stood.takings s stood.b stood.after (last_of first s) unsure in
    let made = c.land.ensures.made.calls in
    omega (arith, made, two)

pub returns-clause-calls : goal.returns-clause-calls
returns-clause-calls g c = λ first t0 stood.
    let s = c.args.self.now in
    let some : is_none s.doubt ≡ false = search rules in
    let unsure = unsure_by stood.fill stood.held stood.takings s stood.b stood.after (last_of first s) some stood.tables in
    let two = landing_two stood.fill stood.held stood.takings s stood.b stood.after (last_of first s) unsure in
    let made = c.land.ensures.made.calls in
    omega (arith, made, two)

pub returns-clause-landed : goal.returns-clause-landed
returns-clause-landed g c = λ done first t0 stood.
    let s = c.args.self.now in
    let new = g.D.Disk.told c.land.new.disk in
    let rest = c.take_in.ensures.rest in
    let s' : Inside = record c.take_in.new.self { history = c.enter.new.history } in
    let items : s'.history.items ≡ s.history.items ++ landing_at new.calls ∷ [] =
    c.enter.ensures.items ∙ ap (λ (l : List Entry). l ++ landing_at c.calls.result ∷ []) (ap (λ (x : Inside). x.history.items) rest) ∙ ap (λ (n : ℕ). s.history.items ++ landing_at n ∷ []) c.calls.ensures in
    last_landed first s s' new.calls (ap (λ (x : Inside). x.tapes) rest) items

pub returns-clause-history : goal.returns-clause-history
returns-clause-history g c =
    let rest = c.take_in.ensures.rest in
    inr (c.enter.ensures.items ∙ ap (λ (l : List Entry). l ++ landing_at c.calls.result ∷ []) (ap (λ (x : Inside). x.history.items) rest) ∙ ap (λ (n : ℕ). c.args.self.now.history.items ++ landing_at n ∷ []) c.calls.ensures)
