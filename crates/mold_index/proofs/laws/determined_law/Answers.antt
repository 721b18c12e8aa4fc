use Rattle.std.proofs.Common.{◌+◌, length, ap, sym, ◌∙◌}
use Rattle.mold_index.specs.Index.{offset_of}
use Rattle.mold_index.specs.declared.layout.Layout.{Layout}
use Rattle.mold_index.proofs.SameLemmas.{same_entries}
use Rattle.mold_index.proofs.laws.determined_law.Goals as goal

pub returns : goal.returns
returns c = record {
  count = λ one other lengths is was. is.counted ∙ sym was.counted;
  end = λ one other lengths is was same.
      is.ends ∙ ap (λ (layout : Layout). offset_of layout lengths (length lengths + 1)) same ∙ sym was.ends;
  entries = same_entries;
}
