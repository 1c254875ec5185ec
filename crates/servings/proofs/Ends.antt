-- What a serving comes to, as a pass and those who hear it know it.
use Rattle.std.proofs.Common.{◌≡◌, ℕ, List, [], Option, sym, ◌∙◌, subst}
use Rattle.frame_pool.specs.Pool.{LeaseState}
use Rattle.voice_model.specs.State.{State}
use Rattle.voice_model.specs.Step.{after}
use Rattle.voice_model.specs.Follows.{after_feed}
use Rattle.voice_model.specs.declared.calls.Reply.{Reply}
use Rattle.voice_model.specs.declared.calls.Entry.{Entry}
use Rattle.turnstile.specs.Shown.{ShownPass}
use Rattle.turnstile.specs.Passes.{seen, mine}
use Rattle.serving_laws.specs.Lanes.{FedBy, IsAtRest}
use Rattle.servings.specs.Servings.{HasServed, HasServedInto, HasHeard}
use Rattle.servings.proofs.Turned.{Goes, Turned, IsLast, awaited_by, some_more, some_next, last_serves, last_heard}

-- the last feed was answered
pub served :
    {T : Type 0} (K : State → Type 0) (tapes : List (List ℕ)) (by lane : ℕ) (p q r : ShownPass T) (before : List ℕ) (reply : Reply) (earlier : List Entry) (heard : List ℕ)
    → Turned K tapes by lane (seen p) (mine p) before reply earlier (seen q) (mine q) heard → IsLast reply → r ≡ q → HasServed lane reply p r
served K tapes by lane p q r before reply earlier heard g last e = subst (HasServed lane reply p) (sym e) (record {
  own = g.own;
  gained = g.gained;
  serves = last_serves lane g.own reply g.opens last;
  front = g.front;
  final = g.final;
  ends = g.ends;
  reply_is = g.reply_is;
  before = earlier;
  told = g.told;
})

-- memory was wanting at a feed
pub served_so_far :
    {T : Type 0} (K : State → Type 0) (tapes : List (List ℕ)) (by lane : ℕ) (p q r : ShownPass T) (before : List ℕ) (at : ℕ) (lease : Option LeaseState) (heard : List ℕ)
    → Goes K tapes by lane (seen p) (mine p) before (seen q) (mine q) at lease heard → mine r ≡ mine q → HasServedInto lane p r
served_so_far K tapes by lane p q r before at lease heard g e =
    let next = some_more lane (awaited_by lease) in
    record { own = g.own; gained = e ∙ g.gained; more = next.0; serves = g.opens next.0 next.1 }

-- and behind a feed
pub served_this_far :
    {T : Type 0} (K : State → Type 0) (tapes : List (List ℕ)) (by lane : ℕ) (p q r : ShownPass T) (before : List ℕ) (reply : Reply) (earlier : List Entry) (heard : List ℕ)
    → Turned K tapes by lane (seen p) (mine p) before reply earlier (seen q) (mine q) heard → mine r ≡ mine q → HasServedInto lane p r
served_this_far K tapes by lane p q r before reply earlier heard g e =
    let next = some_next lane (after_feed reply) in
    record { own = g.own; gained = e ∙ g.gained; more = next.0; serves = g.opens next.0 next.1 }

-- all of the job was heard that its last reply tells of
pub heard_all :
    {T : Type 0} (K : State → Type 0) (tapes : List (List ℕ)) (by lane : ℕ) (p q r : ShownPass T) (before : List ℕ) (reply : Reply) (earlier : List Entry) (heard heard_after : List ℕ)
    → Turned K tapes by lane (seen p) (mine p) before reply earlier (seen q) (mine q) heard → IsLast reply → r ≡ q → heard_after ≡ heard
    → (first : State) → K first → FedBy by lane (seen r) → IsAtRest (after first tapes (seen p)) lane → before ≡ []
    → HasHeard first tapes (seen r) lane reply heard_after
heard_all {T} K tapes by lane p q r before reply earlier heard heard_after g last e f first known fed rest none =
    let same = subst (λ x. FedBy by lane (seen x)) e fed in
    let over = last_heard (after first tapes earlier) (after first tapes (seen q)) lane reply heard last (g.knows first known same rest none) in
    subst (HasHeard first tapes (seen r) lane reply) (sym f)
    (subst (λ (x : ShownPass T). HasHeard first tapes (seen x) lane reply heard) (sym e)
    (record { before = earlier; final = g.final; ends = g.told; reply_is = g.reply_is; bytes = over.0; rests = over.1 }))
