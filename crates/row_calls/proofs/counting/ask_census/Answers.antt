use Rattle.std.proofs.Common.{ℕ, List, length, refl, Some, None, sym, ◌∙◌, ap, subst}
use Rattle.voice_model.specs.State.Effect.{Counted}
use Rattle.voice_model.specs.Changes.{unlisted_keys, unless_empty}
use Rattle.voice_model.specs.declared.calls.Reply.TheVariants as replies
use Rattle.ready_changes.specs.Ready.{MayBeReady, census_change}
use Rattle.row_calls.specs.declared.outcomes.Growth.TheVariants.{NotLonger}
use Rattle.row_calls.proofs.Given.{rows_shown, rebuilt_keys, rebuilt_once}
use Rattle.row_calls.proofs.Grown.{grows_counted, nothing_made, none_counted, census_ready}
use Rattle.row_calls.proofs.counting.ask_census.Goals as goal

pub ready_census-requires : goal.ready_census-requires
ready_census-requires c = record {
  keys = rebuilt_keys c.requires.0 c.args.parts.now c.requires.1 c.requires.2;
  once = rebuilt_once c.requires.0 c.args.parts.now c.requires.1 c.requires.2;
}

pub returns-in_default : goal.returns-in_default
returns-in_default c = λ held fill b s tapes g.
    let parts = c.args.parts.now in
    let keys = c.args.keys.now in
    let none = nothing_made parts.interests.spare b.kept (unless_empty (unlisted_keys s.rows keys) (Counted (unlisted_keys s.rows keys)))
    (subst (λ rows. MayBeReady parts.interests.spare b.kept None (census_change rows keys)) (rows_shown held fill parts b s g) (subst (λ o. MayBeReady parts.interests.spare b.kept o (census_change parts.interests.rows keys)) c.in_default.is (c.in_ok-fewer.ensures parts.interests.spare b.kept (sym g.shows.kept.rows)))) in
    (refl, none, ap (λ (l : List (List ℕ)). replies.Number (length l)) (none_counted (unlisted_keys s.rows keys) (Counted (unlisted_keys s.rows keys)) none))

pub returns : goal.returns
returns c = λ held fill b s tapes g.
    let parts = c.args.parts.now in
    let keys = c.args.keys.now in
    let gone = unlisted_keys s.rows keys in
    let may = subst (λ rows. MayBeReady parts.interests.spare b.kept (Some c.in-Some.ready) (census_change rows keys)) (rows_shown held fill parts b s g) (subst (λ o. MayBeReady parts.interests.spare b.kept o (census_change parts.interests.rows keys)) c.in-Some.is (c.in_ok-fewer.ensures parts.interests.spare b.kept (sym g.shows.kept.rows))) in
    let ready = census_ready parts.interests.spare b.kept c.in-Some.ready gone may in
    record {
      unrefused = refl;
      is_ready = may;
      replied = ap replies.Number (sym (c.keys_named-dropped.ensures gone (c.as_slice.ensures ∙ ready.payload) ready.grammar));
      grows = grows_counted s gone NotLonger (c.base_grows_by_rows.ensures.counted s.form s.form s.kept gone);
    }
