use Rattle.std.proofs.Common.{◌≡◌, ◌≤◌, ◌∙◌, ap, sym, subst, rules, arith, ℕ, List, reverse}
use Rattle.std.proofs.lemmas.List.{with_items_is}
use Rattle.voice_disk.specs.Replay.{bytes_after, newest, left_since}
use Rattle.voice_disk.specs.Image.{begun_by, image_after}
use Rattle.voice_disk.proofs.Images.{image_left, left_by, image_written, all_begun_by}
use Rattle.voice_disk.proofs.image.image_of.Goals as goal

pub returns-clause-admitted : goal.returns-clause-admitted
returns-clause-admitted c =
    let d = c.args.disk.now in
    let first = d.first.items in
    let made = begun_by c.args.moment (reverse d.log.items) in
    let chosen : c.replay.new.image ≡ image_after c.args.choice first made = search rules in
    let whole = with_items_is c.in_ok-image.image c.replay.new.image (search rules) ∙ chosen in
    subst (λ (i : List ℕ). left_since first (reverse d.log.items) c.args.moment i) (sym whole) (left_by c.args.moment first (reverse d.log.items) (image_after c.args.choice first made) (image_left c.args.choice first made))

pub returns-clause-written : goal.returns-clause-written
returns-clause-written c = λ one last.
    let d = c.args.disk.now in
    let first = d.first.items in
    let log = reverse d.log.items in
    let made = begun_by c.args.moment log in
    let chosen : c.replay.new.image ≡ image_after c.args.choice first made = search rules in
    let by : newest log ≤ c.args.moment = omega (arith, d.numbered) in
    with_items_is c.in_ok-image.image c.replay.new.image (search rules) ∙ chosen ∙ ap (λ k. image_after k first made) one ∙ image_written first made
    ∙ ap (bytes_after first) (all_begun_by c.args.moment log by) ∙ sym d.replayed
