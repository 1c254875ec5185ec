use Rattle.std.proofs.Common.{◌≡◌, ◌+◌, Bool, true, false, not, drop, refl, sym, ◌∙◌, ap, arith}
use Rattle.std.specs.Prelude.{is_some, bytes_eq}
use Rattle.std.specs.List.{list_any}
use Rattle.voice_model.specs.Changes.{rows_left}
use Rattle.voice_model.specs.Replay.{each_listed}
use Rattle.voice_model.specs.declared.calls.Class.TheVariants.{Listed}
use Rattle.recovery.proofs.RowsGone.{none_left, census_stops, census_goes_on, drop_next}
use Rattle.recovery.proofs.census.are_listed.Goals as goal

pub loop-key-init : goal.loop-key-init
loop-key-init c = sym (ap (λ l. each_listed l c.args.keys.now) (ap (rows_left c.args.interests.now.rows) c.new-noted.ensures.empty ∙ none_left Listed c.args.interests.now.rows))

pub returns-in_default : goal.returns-in_default
returns-in_default c =
    let rows = c.args.interests.now.rows in
    let keys = c.args.keys.now in
    let k = c.loop-key.key-index in
    let seen = c.loop-key.noted.keys in
    let test = c.loop-key-test.true in
    sym (c.loop-key.invariant ∙ ap (each_listed (rows_left rows seen)) (drop_next keys k c.key-item.result (omega arith) c.key-item.is)
    ∙ census_stops rows seen c.key-item.result (drop (k + 1) keys) false (list_any (bytes_eq c.key-item.result) seen) (ap is_some (sym c.in_default.ensures)) refl refl)

pub returns-then-not-branch : goal.returns-then-not-branch
returns-then-not-branch c =
    let rows = c.args.interests.now.rows in
    let keys = c.args.keys.now in
    let k = c.loop-key.key-index in
    let seen = c.loop-key.noted.keys in
    let test = c.loop-key-test.true in
    sym (c.loop-key.invariant ∙ ap (each_listed (rows_left rows seen)) (drop_next keys k c.key-item.result (omega arith) c.key-item.is)
    ∙ census_stops rows seen c.key-item.result (drop (k + 1) keys) true (list_any (bytes_eq c.key-item.result) seen) (ap is_some (sym c.in-Some.ensures)) refl (sym c.in_ok-note_key.ensures.fresh ∙ c.if-not-branch.true))

not_false : (b : Bool) → not b ≡ true → b ≡ false
not_false true e = cc
not_false false e = refl

pub loop-key-preserved : goal.loop-key-preserved
loop-key-preserved c =
    let rows = c.args.interests.now.rows in
    let keys = c.args.keys.now in
    let k = c.loop-key.key-index in
    let seen = c.loop-key.noted.keys in
    let test = c.loop-key-test.true in
    c.loop-key.invariant ∙ ap (each_listed (rows_left rows seen)) (drop_next keys k c.key-item.result (omega arith) c.key-item.is)
    ∙ census_goes_on rows seen c.note_key.new.noted.keys c.key-item.result (drop (k + 1) keys) (ap is_some (sym c.in-Some.ensures)) (not_false (list_any (bytes_eq c.key-item.result) seen) (sym c.in_ok-note_key.ensures.fresh ∙ c.if-not-branch.false)) c.in_ok-note_key.ensures.keys
