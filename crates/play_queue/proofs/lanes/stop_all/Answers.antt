use Rattle.std.proofs.Common.{◌≡◌, ◌+◌, ◌<◌, ◌∙◌, ap, ap₂, sym, arith, length, get_or, set, ℕ, not, suc, Bool}
use Rattle.std.proofs.lemmas.List.Sums.{count_by_more_yes, count_by_more_no}
use Rattle.circular_buffer.specs.Buffer.{Buffer, buffer}
use Rattle.play_queue.specs.declared.jobs.Job.{Job}
use Rattle.play_queue.specs.Queued.{items_of, stopped_job}
use Rattle.play_queue.proofs.Lanewise.{a_job, half_stopped, one_stopped, not_stopped_yet}
use Rattle.play_queue.proofs.lanes.stop_all.Goals as goal
use Rattle.play_queue.proofs.lanes.stop_all.Goals.{then-mark_stopped, else-mark_stopped}

abbrev room_of : Buffer Job → ℕ
room_of b = b.capacity

abbrev is_playing : Job → Bool
is_playing job = not job.stopped

pub loop-k-preserved : goal.loop-k-preserved
loop-k-preserved c =
    let js = c.args.queue.now.items in
    let k = c.loop-k.k in
    let within : k < length js = omega (arith, c.loop-k-test.true, c.len-k-end.ensures.len) in
    let some : 0 < length js = omega arith in
    let d = a_job js some in
    let was = c.loop-k.invariant.queue in
    let next : suc k ≡ k + 1 = omega arith in
    let here : c.mark_stopped.result ≡ is_playing (get_or js k d) =
    c.mark_stopped.ensures.newly d ∙ ap (λ l. is_playing (get_or l k d)) (ap items_of was) ∙ ap is_playing (not_stopped_yet js k d within) in
    record {
      queue =
          c.mark_stopped.ensures.jobs d
          ∙ ap₂ (λ l n. buffer l n) (ap (λ l. set l k (stopped_job (get_or l k d))) (ap items_of was) ∙ one_stopped js k d within ∙ ap (λ n. half_stopped n js) next) (ap room_of was);
      newly =
          elim c.if-mark_stopped.branch [
            | then-mark_stopped w ↦ w.newly-is ∙ ap (λ n. n + 1) c.loop-k.invariant.newly ∙ sym (count_by_more_yes is_playing js k d within (sym here ∙ w.if-mark_stopped.true))
            | else-mark_stopped w ↦ w.newly-is ∙ c.loop-k.invariant.newly ∙ sym (count_by_more_no is_playing js k d within (sym here ∙ w.if-mark_stopped.false))
          ];
    }
