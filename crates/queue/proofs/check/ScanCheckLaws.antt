-- The laws of the check's one pass: frames, counts, rules of one record and rising ids. Assumes nothing.
use Rattle.std.specs.Prelude.{◌≡◌, refl, Bool, true, false, not, ◌&&◌, List, [], ◌∷◌, ℕ, ◌+◌, ◌-◌, ◌*◌, ◌≤◌, ◌<◌, eqb, length, Option, Some, None, is_some}
use Rattle.std.proofs.Common.{ap, sym, ◌∙◌, arith}
use Rattle.queue.specs.Basics.{and_assoc}
use Rattle.queue.specs.layout.FrameCodec.{id_c, rec_k}
use Rattle.queue.specs.bytes.ViewAs.{view}
use Rattle.queue.specs.check.FilterAs.{hash_l, hash_n, has_in, NewSeen}
use Rattle.queue.specs.layout.FormsCodec.{after_in_value, ends_line_value, turn_in, NotMany, rec_in_value}
use Rattle.queue.specs.layout.RecordsAs.{records}
use Rattle.queue.specs.bytes.ReaderAs.{Fails, whole, list_at}
use Rattle.queue.specs.bytes.ReaderLaws.{none_left}
use Rattle.std.proofs.Math.Option as math
use Rattle.std.proofs.Math.Option.{none, some}
use Rattle.queue.specs.paper.Lists as lists
use Rattle.queue.specs.layout.FrameAs.{facts_of, mined_at}
use Rattle.queue.specs.check.RulesAs.{right_f, weight, sum}
use Rattle.queue.specs.check.ScanAs.{unread?, above_last, no_sums_value, Under, SumsAdded, SumsAs, CheckedAs}
use Rattle.queue.specs.paper.Records.{Bytes, Id, Rec}
use Rattle.queue.specs.paper.Lists.{all?, map}
use Rattle.queue.specs.paper.Ids.{cmp_l, rise?}
use Rattle.queue.specs.paper.Sound.{right?, inputs, among?, stamped?}
use Rattle.queue.specs.declared.layout.frame.Facts.{Facts}
use Rattle.queue.specs.declared.layout.frame.Form.{Form}
use Rattle.queue.specs.declared.layout.frame.Finish.{Finish}
use Rattle.queue.specs.declared.layout.frame.Seen.{Seen}
use Rattle.queue.specs.declared.check.scan.Sums.{Sums}
use Rattle.queue.specs.declared.check.rules.Query.{Query}
use Rattle.queue.specs.declared.check.rules.Query.TheVariants.{Holders, HeldBytes, MinedHolders, MinedBytes}
use Rattle.queue.proofs.layout.TurnLaws.{FoundForm}
use Rattle.queue.proofs.check.FilterLaws.{Walk, walk_start, walk_new, walk_apart, walk_distinct}
use Rattle.queue.proofs.check.ScanLaws.{Framing, frames_go, frames_short, frames_line, frames_end}

and_one : (a : Bool) → (a && true) ≡ a
and_one true = refl
and_one false = refl

-- ---- rising ids: the last id, if there is one
unfoldable chain? : Id → List Rec → Bool
chain? p [] = true
chain? p (r ∷ l) = eqb (cmp_l p r.id) 0 && chain? r.id l

rising_chain : (r : Rec) (l : List Rec) → rise? (map (λ r. r.id) (r ∷ l)) ≡ chain? r.id l
unfolding rise? chain?
rising_chain r [] = refl
rising_chain r (x ∷ l) = rw (rising_chain x l)

unfoldable pub rises_from : Option Id → Bool → List Rec → Bool
rises_from p b [] = b
rises_from p b (r ∷ l) = rises_from (Some r.id) (b && above_last p r.id) l

rises_chain : (b : Bool) (p : Id) (l : List Rec) → rises_from (Some p) b l ≡ (b && chain? p l)
unfolding rises_from chain?
rises_chain b p [] = sym (and_one b)
rises_chain b p (r ∷ l) = rises_chain (b && eqb (cmp_l p r.id) 0) r.id l ∙ and_assoc b (eqb (cmp_l p r.id) 0) (chain? r.id l)

rises_start : (l : List Rec) → rises_from None true l ≡ rise? (map (λ r. r.id) l)
unfolding rises_from rise?
rises_start [] = refl
rises_start (r ∷ l) = rises_chain true r.id l ∙ sym (rising_chain r l)

-- ---- what is still to be counted completes the whole
pub record Rest (k : ℕ) (c : Finish) (a : Sums) (prev : Option Id) (l all : List Rec) : Type 0 where
  pub holders : a.holders + sum Holders l ≡ sum Holders all
  pub bytes : a.bytes + sum HeldBytes l ≡ sum HeldBytes all
  pub mined : a.mined + sum MinedHolders l ≡ sum MinedHolders all
  pub minedbytes : a.minedbytes + sum MinedBytes l ≡ sum MinedBytes all
  pub right : (a.right && all? (right? k c.0) l) ≡ all? (right? k c.0) all
  pub rises : rises_from prev a.rises l ≡ rise? (map (λ r. r.id) all)
  pub unread : (a.unread && all? unread? l) ≡ all? unread? all

-- where the filter told all records before from each other: what it has met of the inputs and the finish numbers
pub record Told (all rest : List Rec) (t : List ℕ) : Type 0 where
  pub inputs : Walk has_in hash_l all rest t
  pub numbers : Walk stamped? hash_n all rest t

-- it has a place exactly where the paper's record has one
mined_some : (p : math.Option (ℕ × Id)) → is_some (mined_at p) ≡ lists.is_some p
mined_some none = refl
mined_some (some p) = refl

right_facts : (k c : ℕ) (r : Rec) → right_f k c (facts_of r) ≡ right? k c r
unfolding right_f facts_of right?
right_facts k c r = rw (mined_some r.place) refl

sum_on : (q : Query) (x : ℕ) {y t : ℕ} {f : Facts} (r : Rec) (l : List Rec) → f ≡ facts_of r → y ≡ x + weight q f → x + sum q (r ∷ l) ≡ t → y + sum q l ≡ t
unfolding sum
sum_on q x r l e g h = let z = ap (weight q) e in omega arith

rest_start : (k : ℕ) (c : Finish) {a : Sums} (l : List Rec) → a ≡ no_sums_value → Rest k c a None l l
rest_start k c l e = rw e (record { holders = omega arith; bytes = omega arith; mined = omega arith; minedbytes = omega arith; right = refl; rises = rises_start l; unread = refl })

module _ {k : ℕ} {c : Finish} {a : Sums} {prev : Option Id} {all : List Rec} where
  rest_on : (r : Rec) (l : List Rec) {a' : Sums} {f : Facts} {id : Id} {up : Bool} → Rest k c a prev (r ∷ l) all → f ≡ facts_of r → id ≡ r.id → up ≡ above_last prev id → SumsAdded k c a f up a' → Rest k c a' (Some id) l all
  unfolding rises_from facts_of
  rest_on r l {a'} {f} {id} {up} x e i u d = record {
    holders = sum_on Holders a.holders r l e d.holders x.holders;
    bytes = sum_on HeldBytes a.bytes r l e d.bytes x.bytes;
    mined = sum_on MinedHolders a.mined r l e d.mined x.mined;
    minedbytes = sum_on MinedBytes a.minedbytes r l e d.minedbytes x.minedbytes;
    right = ap (λ (b : Bool). b && all? (right? k c.0) l) (d.right ∙ ap (λ (b : Bool). a.right && b) (ap (right_f k c.0) e ∙ right_facts k c.0 r))
        ∙ and_assoc a.right (right? k c.0 r) (all? (right? k c.0) l) ∙ x.right;
    rises = ap (λ (b : Bool). rises_from (Some id) b l) (d.rises ∙ ap (λ (b : Bool). a.rises && b) u)
        ∙ ap (λ (j : Id). rises_from (Some j) (a.rises && above_last prev j) l) i ∙ x.rises;
    unread = ap (λ (b : Bool). b && all? unread? l) (d.unread ∙ ap (λ (g : Facts). a.unread && eqb g.reads 0) e) ∙ and_assoc a.unread (unread? r) (all? unread? l) ∙ x.unread;
  }

  rest_end : {t : List ℕ} → Rest k c a prev [] all → (a.clear ≡ true → Told all [] t) → SumsAs k c a all
  unfolding rises_from sum
  rest_end x w = record { holders = omega (arith, x.holders); bytes = omega (arith, x.bytes); mined = omega (arith, x.mined); minedbytes = omega (arith, x.minedbytes); right = sym (and_one a.right) ∙ x.right; rises = x.rises; unread = sym (and_one a.unread) ∙ x.unread; clear = λ c. (walk_apart (w c).inputs, walk_distinct (w c).numbers) }

-- one record more that the filter tells from those before
told_on : {all : List Rec} (r : Rec) (l : List Rec) {v : Bytes} {y : Seen} {b : Bool} {t t' : List ℕ} → (list_at id_c y.facts.ins v y.at ≡ inputs r.body) → y.facts ≡ facts_of r → length t' ≡ length t → Told all (r ∷ l) t → NewSeen v y b t t' → Told all l t'
unfolding facts_of
told_on r l e f n w g = record {
  inputs = walk_new has_in r l w.inputs n (λ z. ap (among? z) e) g.inputs;
  numbers = walk_new stamped? r l w.numbers n (λ m. ap (λ (x : Facts). not x.holder && eqb x.finish.0 m) f) g.number;
}

under_more : {a : Sums} {m n : ℕ} → m ≤ n → Under a m → Under a n
under_more h u = record { holders = omega (arith, u.holders); bytes = omega (arith, u.bytes); mined = omega (arith, u.mined); minedbytes = omega (arith, u.minedbytes) }

pub added : {k : ℕ} {c : Finish} {a : Sums} {f : Facts} {up : Bool} {r : Sums}
    → r.holders ≡ a.holders + weight Holders f → r.bytes ≡ a.bytes + weight HeldBytes f → r.mined ≡ a.mined + weight MinedHolders f → r.minedbytes ≡ a.minedbytes + weight MinedBytes f
    → r.right ≡ (a.right && right_f k c.0 f) → r.rises ≡ (a.rises && up) → r.unread ≡ (a.unread && eqb f.reads 0)
    → weight Holders f < 4294967296 → weight HeldBytes f < 4294967296 → weight MinedHolders f < 4294967296 → weight MinedBytes f < 4294967296
    → SumsAdded k c a f up r
added h b m e g u d h' b' m' e' = record {
  holders = h;
  bytes = b;
  mined = m;
  minedbytes = e;
  right = g;
  rises = u;
  unread = d;
  under = λ n x. record { holders = omega (arith, x.holders); bytes = omega (arith, x.bytes); mined = omega (arith, x.mined); minedbytes = omega (arith, x.minedbytes) };
}

-- ---- the loop
module _ (form : Form) (s : Bytes) (n at k : ℕ) (c : Finish) where
  pub record Checking (i left : ℕ) (a : Sums) (prev : Option Id) (t : List ℕ) : Type 0 where
    pub frame : Framing form s n at i left
    pub few : left ≤ n
    pub under : Under a ((n - left) * 4294967295)
    pub rest : whole (rec_in_value form) n s at ≡ true → Rest k c a prev (list_at (rec_in_value form) left s i) (list_at (rec_in_value form) n s at)
    pub told : whole (rec_in_value form) n s at ≡ true → a.clear ≡ true → Told (list_at (rec_in_value form) n s at) (list_at (rec_in_value form) left s i) t

  pub check_start : {a : Sums} {t : List ℕ} → at ≤ length s → a ≡ no_sums_value → Checking at n a None t
  check_start h e = record {
    frame = record { up = omega arith; within = h; all = refl; rest = refl };
    few = omega arith;
    under = rw e (record { holders = omega arith; bytes = omega arith; mined = omega arith; minedbytes = omega arith });
    rest = λ _. rest_start k c (list_at (rec_in_value form) n s at) e;
    told = λ _ _. record { inputs = walk_start has_in hash_l _ _; numbers = walk_start stamped? hash_n _ _ };
  }

  module _ {i left : ℕ} {a : Sums} {prev : Option Id} {t₀ : List ℕ} (x : Checking i left a prev t₀) (p : 0 < left) where
    pub check_room : n < 4294967296 → Under a 18446744069414584319
    check_room h = under_more (omega (arith, x.few)) x.under

    pub check_short : Fails (rec_k form.kind) (view form.hex s i) 0 → NotMany (rec_in_value form) s at n
    check_short f = record { is = frames_short x.frame p f }

    module _ {m : ℕ} {y : Seen} (r : FoundForm form s i m y) where
      pub check_ids : (y.at ≤ length (view form.hex s i)) × (whole id_c y.facts.ins (view form.hex s i) y.at ≡ true)
      check_ids = let u = r.fact in (u.ins_in, u.ins_all)

      pub check_line : {b : Bool} → b ≡ ends_line_value form.hex s i m → b ≡ false → NotMany (rec_in_value form) s at n
      check_line e f = record { is = frames_line x.frame p r e f }

      pub check_go : {j : ℕ} {b up new : Bool} {a' : Sums} {t' : List ℕ} → b ≡ ends_line_value form.hex s i m → b ≡ true → j ≡ after_in_value form.hex s i m → up ≡ above_last prev y.id → (length t' ≡ length t₀) × (new ≡ true → NewSeen (view form.hex s i) y a.clear t₀ t') → SumsAdded k c a y.facts up a' × (a'.clear ≡ new) → Checking j (left - 1) a' (Some y.id) t'
      check_go {j} {b} {up} {new} {a'} {t'} e f g u q d = record {
        frame = frames_go x.frame p r e f g;
        few = omega (arith, x.few);
        under = under_more (omega (arith, x.few)) (d.0.under ((n - left) * 4294967295) x.under);
        rest = λ w.
            let v = turn_in form.hex left x.frame.within (x.frame.all ∙ w) p r in
            rw g (rest_on v.item (list_at (rec_in_value form) (left - 1) s (after_in_value form.hex s i m)) (rw v.list at (x.rest w)) v.is.0.facts v.is.0.id u d.0);
        told = λ w k.
            let v = turn_in form.hex left x.frame.within (x.frame.all ∙ w) p r in
            let h = q.1 (sym d.1 ∙ k) in
            rw g (told_on v.item (list_at (rec_in_value form) (left - 1) s (after_in_value form.hex s i m)) v.is.0.ins_list v.is.0.facts q.0 (rw v.list at (x.told w h.before)) h);
      }

  pub check_end : {i left : ℕ} {a : Sums} {prev : Option Id} {t : List ℕ} → Checking i left a prev t → left ≡ 0 → CheckedAs form s (records at n) k c a i
  check_end {i} {left} x z =
      let e = frames_end x.frame z in
      record {
        many = e;
        sums = rest_end (rw (none_left (rec_in_value form) s left i z).0 at (x.rest e.is)) (λ k. rw (none_left (rec_in_value form) s left i z).0 at (x.told e.is k));
      }
