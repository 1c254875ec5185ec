use Rattle.std.proofs.Common.{◌≡◌, ap, sym, ◌∙◌, Some, rules}
use Rattle.std.specs.FinMap.{get, get-from_entries}
use Rattle.std.specs.Cmp.Lexicographic.{nat_list_cmp_total}
use Rattle.voice_outside.specs.Files.{named, found}
use Rattle.voice_outside.proofs.mem_shelf.MemShelfShelf.get.Goals as goal

pub returns-in_default-clause-told : goal.returns-in_default-clause-told
returns-in_default-clause-told c =
    ap (λ s. get s.files c.args.name.now) (sym c.self.view_is)
    ∙ get-from_entries nat_list_cmp_total (named c.self.inside.files.items) c.args.name.now
    ∙ ap (λ files. found c.args.name.now (named files)) (sym c.deref-2.ensures.value)
    ∙ c.in_default.ensures

pub returns-clause-told : goal.returns-clause-told
returns-clause-told c =
    let copied : c.in-Some.bytes.now ≡ c.in_ok-copy.copy.items = search rules in
    ap (λ s. get s.files c.args.name.now) (sym c.self.view_is)
    ∙ get-from_entries nat_list_cmp_total (named c.self.inside.files.items) c.args.name.now
    ∙ ap (λ files. found c.args.name.now (named files)) (sym c.deref-2.ensures.value)
    ∙ c.in-Some.ensures
    ∙ ap Some copied
