use Rattle.std.proofs.Common.{◌≡◌, ℕ, Bool, true, false, cond, Some, None, [], refl, sym, ◌∙◌, ap, subst}
use Rattle.std.specs.Prelude.{nat_lt, Option}
use Rattle.voice_units.specs.Spots.{Spot}
use Rattle.voice_model.specs.State.{Durable}
use Rattle.voice_model.specs.State.Effect.{Advanced}
use Rattle.voice_model.specs.declared.changes.Change.TheVariants as changes
use Rattle.ready_changes.specs.Ready.{IsReady, MayBeReady, change_for, later_change}
use Rattle.ready_changes.specs.declared.ReadyChange.{ReadyChange}
use Rattle.next_changes.proofs.Given.{other_next}
use Rattle.next_uses.proofs.changes.advance.Goals as goal

-- what is ready is a later moment
is_later : (spare now moment : ℕ) (d : Durable Spot) (ready : ReadyChange) → MayBeReady spare d (Some ready) (later_change now moment) → (nat_lt now moment ≡ true) × IsReady spare d ready (changes.Advanced moment)
is_later spare now moment d ready h = by (nat_lt now moment) refl h
  where
    by : (b : Bool) → nat_lt now moment ≡ b → MayBeReady spare d (Some ready) (change_for (cond b (Some (Advanced moment)) None)) → (nat_lt now moment ≡ true) × IsReady spare d ready (changes.Advanced moment)
    by true e h = (e, h)
    by false e h = absurd h

pub returns : goal.returns
returns c =
    let b = c.requires.what in
    let parts = c.args.parts.now in
    let may = subst (λ (o : Option ReadyChange). MayBeReady parts.interests.spare b.kept o (later_change parts.moment 60)) c.in-Some.is (c.ready_advance.ensures parts.interests.spare b.kept) in
    let later = is_later parts.interests.spare parts.moment 60 b.kept c.in-Some.ready may in
    record {
      b = b;
      c = changes.Advanced 60;
      next = other_next [] [] parts b c.in-Some.ready (changes.Advanced 60) c.requires.runs (ap (λ (n : ℕ). nat_lt n 60) (sym c.requires.runs.kept.moment) ∙ later.0) later.1;
      in_shape = c.requires.in_shape;
    }
