use Rattle.std.specs.FinMap as map_of
use Rattle.voice_outside.specs.Causes.{HasCause}
use Rattle.std.proofs.Common.{IfSome, Some, Ok, ◌≡◌, ◌<◌, ◌+◌, ◌-◌, ℕ, true, false, List, take, get_or, length, refl, sym, ap, subst, ◌∙◌, arith, Vec, Global}
use Rattle.served_files.specs.declared.heard.Heard.{Heard}
use Rattle.served_files.specs.Given.{ends_serving}
use Rattle.served_files.proofs.SoFar.{has_list, has_file, same_so_far, still, set_one, not_set, front_more}
use Rattle.served_files.proofs.setting.set_files.Goals as goal
use Rattle.served_files.proofs.setting.set_files.Goals.{then-ends_serving+in-Ok, else-ends_serving}

pub index-file-requires : goal.index-file-requires
index-file-requires g c =
    let e = c.entry-item.result in
    let v : Vec Heard Global = c.index-heard-caller.result in
    let within : c.loop-entry.entry-index < length c.args.history.now = c.loop-entry-test.true in
    let ends : ends_serving e ≡ true = sym c.ends_serving.ensures ∙ c.if-ends_serving.true in
    let listed = has_list c.args.history.now c.args.heard.now c.loop-entry.entry-index e c.requires.enough within c.entry-item.is ends in
    let short : get_or c.loop-entry.at (e.caller - 1) 0 < length v.items = has_file c.args.history.now c.args.heard.now c.loop-entry.entry-index (e.caller - 1) _ e v c.loop-entry.at _ _ _ _ c.requires.enough within c.entry-item.is ends
    (omega (arith, listed)) (omega (arith, listed)) (omega (arith, listed, c.requires.few)) c.index-heard-caller.is refl c.loop-entry.invariant in
    omega (arith, short, v.ok.0)

pub returns-in-Err-clause-err : goal.returns-in-Err-clause-err
returns-in-Err-clause-err g c =
    let e = c.entry-item.result in
    let v : Vec Heard Global = c.index-heard-caller.result in
    let h : Heard = c.index-file.result.now in
    let within : c.loop-entry.entry-index < length c.args.history.now = c.loop-entry-test.true in
    let ends : ends_serving e ≡ true = sym c.ends_serving.ensures ∙ c.if-ends_serving.true in
    let listed = has_list c.args.history.now c.args.heard.now c.loop-entry.entry-index e c.requires.enough within c.entry-item.is ends in
    let k = e.caller - 1 in
    let n = get_or c.loop-entry.at k 0 in
    let p1 : k + 1 ≡ e.caller = omega (arith, listed) in
    let p2 : k < length c.args.heard.now = omega (arith, listed) in
    let p3 : k < 16 = omega (arith, p2, c.requires.few) in
    let short : n < length v.items = has_file c.args.history.now c.args.heard.now c.loop-entry.entry-index k n e v c.loop-entry.at _ _ _ _ c.requires.enough within c.entry-item.is ends p1 p2 p3 c.index-heard-caller.is refl c.loop-entry.invariant in
    not_set c.args.history.now c.loop-entry.entry-index e c.args.heard.now c.loop-entry.at _ _ _ _ _ k n v h within c.entry-item.is ends p1 p2 p3 c.index-heard-caller.is refl short c.index-file.ensures c.loop-entry.invariant c.in-Err.ensures.err

pub loop-entry-preserved : goal.loop-entry-preserved
loop-entry-preserved g c =
    let e = c.entry-item.result in
    let lists = c.args.heard.now in
    let history = c.args.history.now in
    let within : c.loop-entry.entry-index < length history = c.loop-entry-test.true in
    let front = front_more history c.loop-entry.entry-index e within c.entry-item.is in
    elim c.if-ends_serving.branch [
      | then-ends_serving+in-Ok w ↦
          let v : Vec Heard Global = w.index-heard-caller.result in
          let h : Heard = w.index-file.result.now in
          let ends : ends_serving e ≡ true = sym c.ends_serving.ensures ∙ w.if-ends_serving.true in
          let listed = has_list history lists c.loop-entry.entry-index e c.requires.enough within c.entry-item.is ends in
          let k = e.caller - 1 in
          let n = get_or c.loop-entry.at k 0 in
          let by : k + 1 ≡ e.caller = omega (arith, listed) in
          let some : k < length lists = omega (arith, listed) in
          let few : k < 16 = omega (arith, some, c.requires.few) in
          let short : n < length v.items = has_file history lists c.loop-entry.entry-index k n e v c.loop-entry.at _ _ _ _ c.requires.enough within c.entry-item.is ends by some few w.index-heard-caller.is refl c.loop-entry.invariant in
          let put : IfSome (g.K.Shelf.files c.loop-entry.shelf) (λ files. g.K.Shelf.files w.put.new.self ≡ Some (map_of.insert files h.file h.bytes.items)) =
          subst (λ (bytes : List ℕ). IfSome (g.K.Shelf.files c.loop-entry.shelf) (λ files. g.K.Shelf.files w.put.new.self ≡ Some (map_of.insert files h.file bytes))) w.deref.ensures.value w.in-Ok.ensures.told in
          let cause : HasCause (g.K.Shelf.faults c.loop-entry.shelf) (g.K.Shelf.faults w.put.new.self) (Ok w.in-Ok.field-0) = w.in-Ok.ensures.cause in
          same_so_far _ _ lists _ _ _ _ _ _ _ _ front w.at-is (ap (λ s. g.K.Shelf.files s) w.shelf-is) (ap (λ s. g.K.Shelf.faults s) w.shelf-is)
          (set_one (take c.loop-entry.entry-index history) e lists c.loop-entry.at _ (g.K.Shelf.files c.loop-entry.shelf) (g.K.Shelf.files w.put.new.self) _ (g.K.Shelf.faults c.loop-entry.shelf) (g.K.Shelf.faults w.put.new.self) k n v h
          ends by some few w.index-heard-caller.is refl short w.index-file.ensures c.loop-entry.invariant put w.in-Ok.ensures.tells cause.later)
      | else-ends_serving w ↦
          let none : ends_serving e ≡ false = sym c.ends_serving.ensures ∙ w.if-ends_serving.false in
          same_so_far _ _ lists _ _ _ _ _ _ _ _ front w.at-is (ap (λ s. g.K.Shelf.files s) w.shelf-is) (ap (λ s. g.K.Shelf.faults s) w.shelf-is)
          (still (take c.loop-entry.entry-index history) e lists c.loop-entry.at _ _ _ _ none c.loop-entry.invariant)
    ]
