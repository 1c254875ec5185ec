use Rattle.std.proofs.Common.{◌∙◌, ◌+◌, ◌-◌, ◌++◌, length, map, drop, ap, arith}
use Rattle.voice_model.specs.Changes.{is_unlisted, unlisted_keys}
use Rattle.interest_table.specs.Inside.{row_of, kept, row_in, first_keys}
use Rattle.interest_table.proofs.Keys.{run_taken, run_within, drop_all, none_left, none_fit}
use Rattle.interest_table.proofs.Census.{listed_kept, listed_alone}
use Rattle.interest_table.proofs.listing.Listing.absent_keys.Goals as goal

pub loop-run-init : goal.loop-run-init
loop-run-init c = record {
  keys = ap (λ keys. keys ++ first_keys (is_unlisted c.args.named.now.keys) (65535 - length keys) (map (kept (row_of c.self.inside.rows)) c.self.inside.listed.items)) c.new-keys.ensures.items;
  most = omega (arith, ap length c.new-keys.ensures.items);
  within = omega arith;
}

pub loop-run-preserved : goal.loop-run-preserved
loop-run-preserved c =
    let at = row_of c.self.inside.rows in
    let ls = c.self.inside.listed.items in
    let run = c.in-Some.run'.now in
    let all = listed_kept at c.self.inside.order.items ls c.self.invariant.apart (λ s k. (c.self.invariant.listing.stands s k).0) in
    record {
      keys = run_taken (is_unlisted c.args.named.now.keys) at ls run c.loop-run.place c.loop-run.keys.items c.push_absent.new.keys.items _ all c.in-Some.ensures.values c.in_ok-push_absent.ensures.keys c.loop-run.invariant.keys;
      most = c.in_ok-push_absent.ensures.most;
      within = run_within ls run (drop (c.loop-run.place + length run) ls) c.loop-run.place c.loop-run.invariant.within c.in-Some.ensures.values;
    }

pub returns-then-len-ge65535 : goal.returns-then-len-ge65535
returns-then-len-ge65535 c =
    let at = row_of c.self.inside.rows in
    let ls = c.self.inside.listed.items in
    let run = c.in-Some.run'.now in
    let all = listed_kept at c.self.inside.order.items ls c.self.invariant.apart (λ s k. (c.self.invariant.listing.stands s k).0) in
    none_fit (is_unlisted c.args.named.now.keys) (65535 - length c.push_absent.new.keys.items) (map (kept at) (drop (c.loop-run.place + length run) ls)) c.push_absent.new.keys.items _ (omega arith)
    (run_taken (is_unlisted c.args.named.now.keys) at ls run c.loop-run.place c.loop-run.keys.items c.push_absent.new.keys.items _ all c.in-Some.ensures.values c.in_ok-push_absent.ensures.keys c.loop-run.invariant.keys)
    ∙ listed_alone c.args.named.now.keys at c.self.inside.order.items ls c.self.invariant.apart
    ∙ ap (λ l. unlisted_keys (map row_in l.entries) c.args.named.now.keys) c.self.view_is

pub returns : goal.returns
returns c =
    let at = row_of c.self.inside.rows in
    let ls = c.self.inside.listed.items in
    none_left (is_unlisted c.args.named.now.keys) _ (map (kept at) (drop c.loop-run.place ls)) c.loop-run.keys.items _ (drop_all at ls c.loop-run.place c.in_default.ensures.none) c.loop-run.invariant.keys
    ∙ listed_alone c.args.named.now.keys at c.self.inside.order.items ls c.self.invariant.apart
    ∙ ap (λ l. unlisted_keys (map row_in l.entries) c.args.named.now.keys) c.self.view_is
