use Rattle.std.proofs.Common.{◌<◌, map, length, refl, sym, ◌∙◌, ap, subst, arith}
use Rattle.voice_model.specs.Replay.{place_of}
use Rattle.voice_blocks.specs.Holders.{Holders, holder_at}
use Rattle.recovery.specs.Shown.{ShowsPlaces, placed_at}
use Rattle.recovery.specs.Placing.{or_else}
use Rattle.recovery.proofs.Based.{legal_file, none_of_later, built_file, in_files, above_files, some_pairs, is_less}
use Rattle.recovery.proofs.building.Building.add_file.Goals as goal

pub place_pairs-requires-clause-none : goal.place_pairs-requires-clause-none
place_pairs-requires-clause-none c =
    let old = c.args.self.now in
    let h = c.requires.building.1 in
    let r = c.requires.building.0 in
    let later : old.last_file < c.args.file = let a = c.if-number-self.false in let b = c.number.ensures.value in omega (arith, a, b) in
    none_of_later c.reserve.new.self.holders r.places c.args.file (λ a. ap (λ l. holder_at l a) c.in_ok-reserve.ensures.holders ∙ h.places.each a) (above_files old r c.args.file h c.in-Files.is later)

pub returns-then-not-place_pairs-clause-legal : goal.returns-then-not-place_pairs-clause-legal
returns-then-not-place_pairs-clause-legal c = λ r h.
    let old = c.args.self.now in
    let later : old.last_file < c.args.file = let a = c.if-number-self.false in let b = c.number.ensures.value in omega (arith, a, b) in
    let below : c.args.file < r.next = let a = c.if-number-self-2.false in let b = c.number-2.ensures.value in let n = h.kept.next in omega (arith, a, b, n) in
    legal_file c.reserve.new.self.holders r c.args.file c.args.pairs.now _ (subst (λ (l : Holders). ShowsPlaces l r.shape.blocks r.places) (sym c.in_ok-reserve.ensures.holders) h.places)
    (in_files old r h c.in-Files.is) (above_files old r c.args.file h c.in-Files.is later) (is_less c.args.file r.next below) c.if-not-place_pairs.ensures.exact

pub returns-clause-legal : goal.returns-clause-legal
returns-clause-legal c = λ r h.
    let old = c.args.self.now in
    let later : old.last_file < c.args.file = let a = c.if-number-self.false in let b = c.number.ensures.value in omega (arith, a, b) in
    let below : c.args.file < r.next = let a = c.if-number-self-2.false in let b = c.number-2.ensures.value in let n = h.kept.next in omega (arith, a, b, n) in
    legal_file c.reserve.new.self.holders r c.args.file c.args.pairs.now _ (subst (λ (l : Holders). ShowsPlaces l r.shape.blocks r.places) (sym c.in_ok-reserve.ensures.holders) h.places)
    (in_files old r h c.in-Files.is) (above_files old r c.args.file h c.in-Files.is later) (is_less c.args.file r.next below) c.if-not-place_pairs.ensures.exact

pub returns-clause-done : goal.returns-clause-done
returns-clause-done c = λ r change h e legal grammar acts.
    let old = c.args.self.now in
    let later : old.last_file < c.args.file = let a = c.if-number-self.false in let b = c.number.ensures.value in omega (arith, a, b) in
    let placed = c.if-not-place_pairs.ensures in
    built_file old _ r change c.args.file c.args.pairs.now h legal grammar acts (in_files old r h c.in-Files.is) later (some_pairs c.requires.grammar.0 c.args.file c.args.pairs.now c.requires.grammar.1) refl refl refl refl refl
    (placed.size ∙ ap (λ (l : Holders). length l) c.in_ok-reserve.ensures.holders)
    (λ a. placed.done refl a ∙ ap (λ (l : Holders). or_else (holder_at l a) (placed_at (map (place_of c.args.file) c.args.pairs.now) a)) c.in_ok-reserve.ensures.holders)
    refl c.number-self.ensures.value c.in_ok-note_pairs.ensures
