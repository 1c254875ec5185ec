use Rattle.std.proofs.Common.{of_calls, List, ap, refl, ◌∙◌, length, get_or, slice_set}
use Rattle.std.proofs.lemmas.Option.{slice_get_read}
use Rattle.counted_row.proofs.chunk.Chunk.change.Goals as goal

pub returns : goal.returns
returns g c = record {
  before = c.index_mut.result.now;
  after = c.change.new.arg2;
  there = slice_get_read c.args.self.now (length c.args.self.now) c.args.k c.index_mut.result.now refl c.requires.within (c.index_mut.ensures.value ∙ ap (λ (l : List _). get_or l c.args.k c.index_mut.result.now) c.self.view_is);
  called = search of_calls;
  others = ap (λ (l : List _). slice_set l c.args.k c.change.new.arg2) c.self.view_is;
}
