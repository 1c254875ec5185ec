use Rattle.std.proofs.Common.{◌≡◌, ℕ, List, Option, Some, sym, subst}
use Rattle.std.specs.Prelude.{IfSome}
use Rattle.std.specs.FinMap.{get}
use Rattle.voice_outside.specs.Files.{Files}
use Rattle.voice_outside.specs.Counters.{HasRisen}
use Rattle.voice_main.specs.declared.convert.Way.{Way}
use Rattle.voice_main.specs.declared.convert.Way.TheVariants as ways
use Rattle.voice_main.specs.Conversions.{ConversionComes}
use Rattle.voice_main.proofs.Converted.{came, rose}
use Rattle.voice_main.proofs.convert.convert.Goals as goal

pub returns-in-Import-clause-comes : goal.returns-in-Import-clause-comes
returns-in-Import-clause-comes g c =
    let asked = c.args.asked.now in
    let told : Option Files = g.K.Shelf.files c.args.shelf.now in
    let new : Option Files = g.K.Shelf.files c.import.new.shelf in
    let risen : Type 0 = HasRisen (g.K.Shelf.faults c.args.shelf.now) (g.K.Shelf.faults c.import.new.shelf) in
    let P : List ℕ → Type 0 = λ bytes. IfSome told (λ files. get files asked.source ≡ Some bytes) in
    let W : Way → Type 0 = λ way. ConversionComes way asked.source asked.target told new risen c.import.result in
    subst W (sym c.in-Import.is)
    (came ways.Import asked.source asked.target c.deref.result.now told (g.K.Shelf.files c.file.new.shelf) new (HasRisen (g.K.Shelf.faults c.file.new.shelf) (g.K.Shelf.faults c.import.new.shelf)) risen c.import.result
    (subst P (sym c.deref.ensures.value) c.in-Ok.ensures.ok) c.in-Ok.ensures.kept (rose (g.K.Shelf.faults c.args.shelf.now) (g.K.Shelf.faults c.file.new.shelf) (g.K.Shelf.faults c.import.new.shelf) c.in-Ok.ensures.later) c.import.ensures.comes)

pub returns-clause-comes : goal.returns-clause-comes
returns-clause-comes g c =
    let asked = c.args.asked.now in
    let told : Option Files = g.K.Shelf.files c.args.shelf.now in
    let new : Option Files = g.K.Shelf.files c.export.new.shelf in
    let risen : Type 0 = HasRisen (g.K.Shelf.faults c.args.shelf.now) (g.K.Shelf.faults c.export.new.shelf) in
    let P : List ℕ → Type 0 = λ bytes. IfSome told (λ files. get files asked.source ≡ Some bytes) in
    let W : Way → Type 0 = λ way. ConversionComes way asked.source asked.target told new risen c.export.result in
    subst W (sym c.in-Export.is)
    (came ways.Export asked.source asked.target c.deref-in-Export.result.now told (g.K.Shelf.files c.file.new.shelf) new (HasRisen (g.K.Shelf.faults c.file.new.shelf) (g.K.Shelf.faults c.export.new.shelf)) risen c.export.result
    (subst P (sym c.deref-in-Export.ensures.value) c.in-Ok.ensures.ok) c.in-Ok.ensures.kept (rose (g.K.Shelf.faults c.args.shelf.now) (g.K.Shelf.faults c.file.new.shelf) (g.K.Shelf.faults c.export.new.shelf) c.in-Ok.ensures.later) (c.export.ensures.comes c.args.asked.now.source))
