use Rattle.std.proofs.Common.{nat_lt, rules, ◌≡◌, ◌^◌}
use Rattle.std.proofs.lemmas.Fn.{always_returns_same}
use Rattle.interest_table.specs.Inside.{place_of}
use Rattle.interest_table.proofs.Dated.{one_entered, placed_before}
use Rattle.interest_table.proofs.expiries.put_expiry.Goals as goal

pub returns-clause-items : goal.returns-clause-items
returns-clause-items c =
    let here = place_of c.args.coming in
    one_entered c.args.coming c.args.expiries.now.items c.insert_at_point.new.self.items
    (λ h. c.in-Ok.ensures.ok (λ y. nat_lt (place_of y) here) (always_returns_same _ (λ a r. r ≡ nat_lt (place_of a.0.now) here) _ (λ a r f' called. search rules)) (placed_before here 0 (2 ^ 128) c.args.expiries.now.items h.rising))
