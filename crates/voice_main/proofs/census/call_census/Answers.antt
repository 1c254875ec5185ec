use Rattle.std.proofs.Common.{◌≡◌, ◌∙◌, List, [], Bool, sym, refl, rules}
use Rattle.voice_model.specs.State.{State}
use Rattle.voice_model.specs.declared.calls.Entry.{Entry}
use Rattle.voice_store.specs.Shown.{history_of, tapes_in}
use Rattle.voice_main.specs.Notes.{IsOneCensus, IsCensusSoFar}
use Rattle.voice_main.proofs.Counted.{closed, census_made, census_so_far}
use Rattle.voice_main.proofs.census.call_census.Goals as goal

pub returns-clause-so_far : goal.returns-clause-so_far
returns-clause-so_far g c =
    let store = c.apply-made.new.self in
    let opened = c.in-Ok-open.ensures.state in
    let no_tapes : tapes_in c.in-Ok-open.store ≡ [] = search rules in
    let fresh : history_of c.in-Ok-open.store ≡ [] = search rules in
    let made : List Entry → Bool → State → Type 0 = λ history honest first. IsCensusSoFar c.args.keys honest first history in
    closed g.D.Disk.told opened.0 c.args.disk store.origin store.disk c.close-disk.result.0 store.inside (history_of store) c.close-disk.result.1.items made
    (c.apply-made.ensures.origin ∙ c.in-Ok-open.ensures.ok.0) c.close-disk.ensures.disk (c.apply-made.ensures.state opened.0 opened.1) opened.2 refl c.close-disk.ensures.history
    (c.apply-made.ensures.tapes ∙ no_tapes) (λ sure legal. census_so_far c.args.keys _ opened.0 _ _ (history_of c.in-Ok-open.store) (history_of store) c.apply-made.result fresh c.apply-made.ensures.entry c.apply-made.ensures.err sure legal)

pub returns-clause-finished : goal.returns-clause-finished
returns-clause-finished g c = λ fine.
    let store = c.apply-made.new.self in
    let opened = c.in-Ok-open.ensures.state in
    let no_tapes : tapes_in c.in-Ok-open.store ≡ [] = search rules in
    let fresh : history_of c.in-Ok-open.store ≡ [] = search rules in
    let made : List Entry → Bool → State → Type 0 = λ history honest first. IsOneCensus c.args.keys honest first history in
    closed g.D.Disk.told opened.0 c.args.disk store.origin store.disk c.close-disk.result.0 store.inside (history_of store) c.close-disk.result.1.items made
    (c.apply-made.ensures.origin ∙ c.in-Ok-open.ensures.ok.0) c.close-disk.ensures.disk (c.apply-made.ensures.state opened.0 opened.1) opened.2 refl c.close-disk.ensures.history
    (c.apply-made.ensures.tapes ∙ no_tapes) (λ sure legal. census_made c.args.keys _ opened.0 _ _ (history_of c.in-Ok-open.store) (history_of store) c.apply-made.result fresh (sym c.is_ok.ensures.value ∙ fine) c.apply-made.ensures.entry sure legal)
