-- `names::Names::find` meets its contract: the chain of the hash sought has every name with that hash, so what is found on it is found among all.
use mathlib.Core.Path.{ap, ◌∙◌}
use Rattle.meaning.specs.Tables.{at}
use Rattle.names.proofs.Links.{link_head, found_all}
use Rattle.names.proofs.Names.find.Goals as goal

pub follow-requires : goal.follow-requires
follow-requires c =
    let names = c.args.self.now in
    rw (c.number_at-link.ensures ∙ ap (at names.heads.now) c.hash_of-h.ensures.0)
    (link_head names.count names.letters.now names.lens.now names.hashes.now names.heads.now names.nexts.now names.indexed c.args.word.now)

pub returns : goal.returns
returns c =
    let names = c.args.self.now in
    found_all names.count names.letters.now names.lens.now names.hashes.now names.heads.now names.nexts.now names.indexed c.args.word.now c.follow.result
    (rw (c.number_at-link.ensures ∙ ap (at names.heads.now) c.hash_of-h.ensures.0) at c.follow.ensures)
