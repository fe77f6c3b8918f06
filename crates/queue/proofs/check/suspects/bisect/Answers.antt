use Rattle.queue.proofs.check.SuspectsRowLaws.{cut_at, parted}
use Rattle.queue.specs.bytes.ReaderLaws.{be_at}
use Rattle.queue.specs.bytes.ViewAs.{view}
use Rattle.queue.specs.check.SuspectsAs.{Cut, InOrder, up_to}
use Rattle.std.specs.Prelude.{◌≡◌, ◌/◌, ◌≤◌, Bool, List, ℕ, false, length}
use Rattle.std.proofs.Common.{ap, arith, rules, subst, sym, ◌∙◌}
use Rattle.std.proofs.lemmas.List.Sorted.{IsPartitionPoint-from_clause}
use Rattle.queue.proofs.check.suspects.bisect.Goals as goal

pub bisect_digits-requires : goal.bisect_digits-requires
bisect_digits-requires c = subst (λ (h : Bool). InOrder h c.args.s.now c.args.v.now) c.if-hex.true c.requires

pub returns-then-hex : goal.returns-then-hex
returns-then-hex c = subst (λ (h : Bool). Cut h c.args.s.now c.args.v.now c.args.y c.bisect_digits.result c.bisect_digits.result) (sym c.if-hex.true) c.bisect_digits.ensures

pub returns : goal.returns
returns c =
    let o = subst (λ (h : Bool). InOrder h c.args.s.now c.args.v.now) c.if-hex.false c.requires in
    let p = c.new-frame.ensures ∙ ap (λ (h : Bool). view h c.args.s.now (c.args.y / 4294967296)) c.if-hex.false in
    let e = subst (λ (z : List ℕ). (32 ≤ length z) × (c.be-first.result ≡ be_at 8 z 0)) p (let k = c.len.ensures.is in omega (arith, k, c.if-len-lt32.false), c.be-first.ensures.is) in
    subst (λ (h : Bool). Cut h c.args.s.now c.args.v.now c.args.y c.partition_point.result c.partition_point.result) (sym c.if-hex.false) (cut_at _ _ _ c.partition_point.ensures.bound (IsPartitionPoint-from_clause (λ x. up_to false c.args.s.now x c.args.y) _ _ c.partition_point.ensures.partitioned (parted _ _ _ o c.args.y) (λ a r q k. search (rules, e))))
