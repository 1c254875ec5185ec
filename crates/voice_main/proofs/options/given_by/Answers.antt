use Rattle.std.proofs.Common.{◌<◌, ◌+◌, length, map, arith}
use Rattle.std.specs.Prelude.{string_bytes}
use Rattle.std.proofs.lemmas.List.{length-map}
use Rattle.voice_main.specs.Options.{none_given}
use Rattle.voice_main.proofs.Pairing.{one_left, none_more, alike_more, item_now}
use Rattle.voice_main.proofs.options.given_by.Goals as goal

pub returns-then-at-words : goal.returns-then-at-words
returns-then-at-words c = one_left (map string_bytes c.args.words.now) none_given c.loop-at.given c.loop-at.at (omega (arith, c.if-at-words.true, length-map c.args.words.now string_bytes)) c.loop-at.invariant.alike

pub returns-in_default : goal.returns-in_default
returns-in_default c =
    let within : c.loop-at.at + 1 < length c.args.words.now = omega (arith, c.loop-at-test.true, c.if-at-words.false) in
    let first = item_now string_bytes c.args.words.now c.loop-at.at c.index-words-at.result c.as_bytes.result.now (omega (arith, within)) c.index-words-at.is c.as_bytes.ensures.value in
    let second = item_now string_bytes c.args.words.now (c.loop-at.at + 1) c.index-words-at-in-loop-at.result c.as_bytes-in-loop-at.result.now within c.index-words-at-in-loop-at.is c.as_bytes-in-loop-at.ensures.value in
    none_more (map string_bytes c.args.words.now) none_given c.loop-at.given c.loop-at.at c.as_bytes.result.now c.as_bytes-in-loop-at.result.now (omega (arith, within, length-map c.args.words.now string_bytes)) first second c.in_default.ensures c.loop-at.invariant.alike

pub loop-at-preserved : goal.loop-at-preserved
loop-at-preserved c =
    let within : c.loop-at.at + 1 < length c.args.words.now = omega (arith, c.loop-at-test.true, c.if-at-words.false) in
    let first = item_now string_bytes c.args.words.now c.loop-at.at c.index-words-at.result c.as_bytes.result.now (omega (arith, within)) c.index-words-at.is c.as_bytes.ensures.value in
    let second = item_now string_bytes c.args.words.now (c.loop-at.at + 1) c.index-words-at-in-loop-at.result c.as_bytes-in-loop-at.result.now within c.index-words-at-in-loop-at.is c.as_bytes-in-loop-at.ensures.value in
    record {
      within = omega (arith, within);
      alike = alike_more (map string_bytes c.args.words.now) none_given c.loop-at.given c.in-Some.more c.loop-at.at c.as_bytes.result.now c.as_bytes-in-loop-at.result.now (omega (arith, within, length-map c.args.words.now string_bytes)) first second c.in-Some.ensures c.loop-at.invariant.alike;
    }
