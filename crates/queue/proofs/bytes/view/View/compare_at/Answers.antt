use Rattle.queue.specs.bytes.ViewAs.{shown_raw}
use Rattle.std.proofs.Common.{sym, ◌∙◌, refl}
use Rattle.queue.proofs.bytes.view.View.compare_at.Goals as goal

pub returns-else-other : goal.returns-else-other
returns-else-other c =
    let v = sym (shown_raw c.self.inside.bytes.now c.if-self.false) ∙ c.self.view_is in
    let w = sym (shown_raw c.other.inside.bytes.now c.if-other.false) ∙ c.other.view_is in
    c.compare_words.ensures ∙ rw (v, w) refl
