use Rattle.std.proofs.Common.{◌≤◌, length, sym, refl, ap, ◌∙◌, subst}
use Rattle.names.specs.Names.{Name, text_in, text_end}
use Rattle.names.proofs.Facts.{entry_within, entry_end, entry_text}
use Rattle.names.proofs.table.NameTable.text.Goals as goal

pub bounds-entries_in_use-name : goal.bounds-entries_in_use-name
bounds-entries_in_use-name c = entry_within c.args.self.now c.entries_in_use.result.now _ c.entries_in_use.ensures.entries refl c.args.name.0 c.requires.known

pub of-requires : goal.of-requires
of-requires c =
    let ps = c.bytes_in_use.result.now in
    record {
      within = subst (λ (k : Name). text_end k ≤ length ps) (sym c.key-key.ensures.key) (entry_end c.args.self.now c.entries_in_use.result.now ps c.entries_in_use.ensures.entries c.bytes_in_use.ensures.bytes c.args.name.0 c.requires.known _);
    }

pub returns : goal.returns
returns c =
    let ps = c.bytes_in_use.result.now in
    record {
      text = c.of.ensures.parts ∙ ap (λ (k : Name). text_in k ps) c.key-key.ensures.key
          ∙ entry_text c.args.self.now c.entries_in_use.result.now ps c.entries_in_use.ensures.entries c.bytes_in_use.ensures.bytes c.args.name.0 c.requires.known _;
    }
