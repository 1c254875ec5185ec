use Rattle.std.proofs.Common.{◌≡◌, ◌∙◌, ◌++◌, ◌∷◌, [], ℕ, ap, refl, cond, Some}
use Rattle.std.specs.Prelude.{nat_eq}
use Rattle.indexmap.proofs.CallerLemmas.{insert_entry-new}
use Rattle.interest_table.specs.declared.stamped.NamedRow.{NamedRow}
use Rattle.interest_table.specs.Inside.{same_name, stamp_of, row_of, row_under, ArePlaced}
use Rattle.interest_table.proofs.Placed.{eq_named, stamp_found, renamed, rows_more}
use Rattle.interest_table.proofs.stamped.StampedRows.put.Goals as goal

abbrev named : (c : goal.In-Ok-insert) → NamedRow
named c = record { row = c.args.row }

pushed : (c : goal.In-Ok-insert) → c.insert.new.self.entries ≡ c.self.inside.rows.entries ++ (named c, c.args.stamp) ∷ []
pushed c = c.in-Ok.ensures.entries ∙ insert_entry-new eq_named c.self.inside.rows (named c) c.args.stamp
    (stamp_found c.self.inside.rows.entries (named c) c.args.row.class c.args.row.key refl refl ∙ ap (λ s. stamp_of s c.args.row.class c.args.row.key) c.self.view_is ∙ c.requires.fresh)

more : (c : goal.In-Ok-insert) → ArePlaced c.insert.new.self.entries c.insert-2.new.self.entries
    × ((q : ℕ) → row_under c.insert.new.self.entries c.insert-2.new.self.entries q ≡ cond (nat_eq c.args.stamp q) (Some c.args.row) (row_under c.self.inside.rows.entries c.self.inside.places.entries q))
more c =
    rows_more c.self.inside.rows.entries c.insert.new.self.entries c.self.inside.places.entries c.insert-2.new.self.entries (named c) c.args.stamp c.len-index.result c.self.invariant
    (ap (λ s. row_of s c.args.stamp) c.self.view_is ∙ c.requires.unused) c.len-index.ensures.len (pushed c) c.in-Ok-insert.ensures.updates.0

pub invariant_of-self-2 : goal.invariant_of-self-2
invariant_of-self-2 c = (more c).0

pub returns-clause-names : goal.returns-clause-names
returns-clause-names c other text =
    renamed c.self.inside.rows.entries c.insert.new.self.entries (named c) c.args.row.class c.args.row.key (Some c.args.stamp) refl refl c.in-Ok.ensures.updates.0 other text
    ∙ ap (λ s. cond (same_name c.args.row.class c.args.row.key other text) (Some c.args.stamp) (stamp_of s other text)) c.self.view_is

pub returns-clause-at : goal.returns-clause-at
returns-clause-at c other = (more c).1 other ∙ ap (λ s. cond (nat_eq c.args.stamp other) (Some c.args.row) (row_of s other)) c.self.view_is
