use Rattle.std.proofs.Common.{◌≡◌, ℕ, Bool, List, length, None, IsTrue, sym, ap, subst, ◌∙◌}
use Rattle.std.specs.List.{list_all}
use Rattle.std.specs.Prelude.{true}
use Rattle.voice_units.specs.Blocks.{blocks_for}
use Rattle.voice_units.specs.declared.shapes.Shape.{Shape}
use Rattle.voice_model.specs.Replay.{is_free_address}
use Rattle.mirror_packets.specs.Packets as spec
use Rattle.crash_laws.specs.Standing.{IsLater}
use Rattle.crash_laws.specs.Calls.{SparesWithin}
use Rattle.fillings.specs.Laws.{HasBytes}
use Rattle.voice_mirror.specs.Shown.{Keeps, state_of}
use Rattle.voice_mirror.proofs.Bodies.{body_takes, keeps_spared}
use Rattle.voice_mirror.proofs.Committed.{shape_of}
use Rattle.voice_mirror.proofs.taking.write_and_commit.Goals as goal

pub write-requires-clause-free : goal.write-requires-clause-free
write-requires-clause-free g c =
    λ κs lives.
    let what = c.requires.standing.upright.tables in
    (what.what, what.in_shape ∙ sym c.shape-shape.ensures, subst (λ (l : List ℕ). list_all (is_free_address what.what) l ≡ true) (sym c.deref.ensures.value) (c.requires.free what.what what.shows).free)

pub returns-in_default-clause-takes : goal.returns-in_default-clause-takes
returns-in_default-clause-takes g c =
    λ honest first from t0 taken k.
    let s = state_of c.args.inside.now in
    let old = g.D.Disk.told c.args.disk.now in
    let mid = g.D.Disk.told c.write.new.disk in
    let laws = g.met.D.Disk g.world.𝓛 g.world.𝓜 g.world.𝓡 ((λ s x. x), (λ x. x), (λ x. x), λ x. x) in
    let is : IsLater old mid = record {
      later = c.write.ensures.made.later;
      was = record { since = laws.since c.args.disk.now; present = laws.present c.args.disk.now honest };
      is = record { since = laws.since c.write.new.disk; present = laws.present c.write.new.disk (subst (λ (x : Bool). IsTrue x) (sym c.write.ensures.made.honest) honest) };
    } in
    let here = shape_of c.foundations.ensures old is.was first from t0 taken s k in
    let free = subst (λ (l : List ℕ). list_all (is_free_address k.now) l ≡ true) (sym c.deref.ensures.value) (c.requires.free k.now k.shows).free in
    let spares = c.write.ensures.spares honest k.now (here ∙ sym c.shape-shape.ensures) k.shows.used free in
    keeps_spared c.foundations.ensures old mid is first from t0 taken s k (subst (λ (shape : Shape). SparesWithin shape k.now old mid) c.shape-shape.ensures spares)

pub returns-clause-takes : goal.returns-clause-takes
returns-clause-takes g c =
    λ honest first from t0 taken k.
    let s = state_of c.args.inside.now in
    let voice = c.args.voice in
    let old = g.D.Disk.told c.args.disk.now in
    let mid = g.D.Disk.told c.write.new.disk in
    let new = g.D.Disk.told c.commit.new.disk in
    let laws = g.met.D.Disk g.world.𝓛 g.world.𝓜 g.world.𝓡 ((λ s x. x), (λ x. x), (λ x. x), λ x. x) in
    let honest_mid = subst (λ (x : Bool). IsTrue x) (sym c.write.ensures.made.honest) honest in
    let is : IsLater old mid = record {
      later = c.write.ensures.made.later;
      was = record { since = laws.since c.args.disk.now; present = laws.present c.args.disk.now honest };
      is = record { since = laws.since c.write.new.disk; present = laws.present c.write.new.disk honest_mid };
    } in
    let here = shape_of c.foundations.ensures old is.was first from t0 taken s k in
    let got = c.requires.free k.now k.shows in
    let free = subst (λ (l : List ℕ). list_all (is_free_address k.now) l ≡ true) (sym c.deref.ensures.value) got.free in
    let spares = c.write.ensures.spares honest k.now (here ∙ sym c.shape-shape.ensures) k.shows.used free in
    let k' : Keeps first from t0 taken None mid s = keeps_spared c.foundations.ensures old mid is first from t0 taken s k (subst (λ (shape : Shape). SparesWithin shape k.now old mid) c.shape-shape.ensures spares) in
    let ready = c.requires.may.each k.now k.shows here in
    let written = subst (λ (l : List ℕ). HasBytes mid.bytes c.shape-shape.result l voice.samples.now) c.deref.ensures.value (c.in-Ok.ensures.written honest) in
    body_takes c.foundations.ensures mid is.is first from t0 taken s k' c.bodies_do.ensures c.args.number c.requires.may.next voice.addresses.items (spec.Body.Voice voice.id voice.samples.now) c.requires.good c.args.ready.change c.requires.change ready.legal
    (got.count ∙ ap (λ (shape : Shape). blocks_for shape.block (length voice.samples.now)) (sym here), got.differ, got.free)
    (subst (λ (shape : Shape). HasBytes mid.bytes shape voice.addresses.items voice.samples.now) (c.shape-shape.ensures ∙ sym here) written)
    new (state_of c.commit.new.inside) c.commit.result (λ effect does. c.commit.ensures.commits honest_mid first from t0 taken effect k' does)
