-- Demand 1, and document 01's "Numbers a call may give back": each call's refusals in the order of its checks, each beside what
-- it is "given if and only if". The first that holds is given; where none holds, the call is answered.
use Rattle.std.specs.Prelude.{◌≡◌, Bool, true, false, cond, not, ◌&&◌, ◌||◌, List, [], ◌∷◌, ℕ, ◌+◌, ltb, leb, eqb, length}
use Rattle.queue.specs.paper.Answer.{Answer, Refused, Done}
use Rattle.queue.specs.Areas.{read_area, read_image}
use Rattle.queue.specs.paper.Records.{Bytes, Id, Limits, Rec, Queue}
use Rattle.queue.specs.paper.Lists.{is_some, maybe, any?, total, count, find}
use Rattle.queue.specs.paper.Sound.{in_range, shares_right?, need, holder?, pending?, mined?, label_len, clash?, crossed?}
use Rattle.queue.specs.paper.Kinds.{oldest, says?}
use Rattle.queue.specs.paper.Area.{image_under, image_bytes}
use Rattle.queue.specs.paper.Changing.{Out, refused, done, top, named?, reached?, pendings, pending_bytes, pendings_of, share_of, admit, cancel, due?, expire, to_release, reconcile}
use Rattle.queue.specs.paper.Calls.{id?, entry_bytes, ids_bytes, released_bytes, Call, admitting, cancelling, expiring, reconciling, reopening, setting_cursor, admission, reconciliation, shape?, over_k?, call_of, limits_of, fresh_of, sound_of, settle_shape?, settle_of, read_of, number_of, entry_of, signed_bytes_of}
use Rattle.queue.specs.paper.Fees.{best_fees_value, candidates, size_of, fee_of, best_bytes, budget?, best_fees_of}
use Rattle.image.specs.paper.Image.{image_of, open_of, Five, need_of, image_limits_of, read_newest, convert_of}

-- numbers with their conditions
abbrev pub Checks : Type 0
Checks = List (ℕ × Bool)

-- the number of the first that holds, 0 where none does
abbrev pub first_of : Checks → ℕ
first_of [] = 0
first_of (x ∷ l) = cond x.1 x.0 (first_of l)

abbrev pub refusal : Answer → ℕ
refusal (Refused n) = n
refusal (Done k) = 0

-- "its result or one of document 01's refusals ..; a refusal changes no lent byte, save that 17 leaves the next area as document
-- 01 settles it": what a call answers and leaves, what was lent to it to write, its checks
pub record Answers {A : Type 0} (o : Answer × A) (lent : A) (l : Checks) : Type 0 where
  pub number : refusal o.0 ≡ first_of l
  pub kept : (n : ℕ) → o.0 ≡ Refused n → (n ≡ 17 → ⊥) → o.1 ≡ lent

abbrev pub unsound? : Bytes → Bool
unsound? area = not (is_some (read_area area))

-- 3, then what is asked of the queue
abbrev pub on : Bytes → (Queue → Checks) → Checks
on area f = (3, unsound? area) ∷ maybe [] f (read_area area)

-- the bytes that a call answers
abbrev pub answer : {A : Type 0} → (A → Bytes) → Out A → Bytes
answer bytes (refused n) = []
answer bytes (done k q a) = bytes a

-- "a pending or Mined id then gives its old record": none of 10, 18, 11, 12, 20 is asked
abbrev pub known? : Id → Queue → Bool
known? i q = maybe false (λ r. pending? r.state || mined? r) (find (named? i) q.recs)

abbrev pub rule_checks : Call → Queue → ℕ → Checks
rule_checks (admitting a) q room =
    let x = admission a in
    (6, over_k? q.limits.K a) ∷ (7, reached? x.due x.now) ∷ (8, reached? x.due_height x.tip_height) ∷ (9, ltb 200 (label_len x.label))
    ∷ (10, not (known? x.id q) && leb q.limits.P (pendings q.recs))
    ∷ (18, not (known? x.id q) && leb (share_of x.caller q.limits) (pendings_of x.caller q.recs))
    ∷ (11, not (known? x.id q) && ltb q.limits.B (pending_bytes q.recs + length x.held.bytes))
    ∷ (12, not (known? x.id q) && clash? x.held.ins q.recs)
    ∷ (20, not (known? x.id q) && crossed? x.held.ins x.held.reads q.recs)
    ∷ (4, ltb room (length (answer entry_bytes (admit x q)))) ∷ []
rule_checks (cancelling i) q room =
    (13, not (is_some (find (named? i) q.recs))) ∷ (14, maybe false mined? (find (named? i) q.recs))
    ∷ (15, maybe false holder? (find (named? i) q.recs) && ltb top (q.counter + count (named? i) q.recs))
    ∷ (4, ltb room (length (answer entry_bytes (cancel i q)))) ∷ []
rule_checks (expiring now height) q room =
    (15, any? (due? now height) q.recs && ltb top (q.counter + count (due? now height) q.recs))
    ∷ (4, ltb room (length (answer ids_bytes (expire now height q)))) ∷ []
rule_checks (reconciling a) q room =
    (15, ltb top (q.counter + length (to_release (reconciliation a) q)))
    ∷ (4, ltb room (length (answer released_bytes (reconcile (reconciliation a) q)))) ∷ []
rule_checks (reopening ids) q room = []
rule_checks (setting_cursor height flag tip) q room = []

abbrev pub call_checks : Call → Bytes → ℕ → ℕ → Checks
call_checks c cur lent room = on cur λ q. (2, ltb lent (need q.limits)) ∷ (5, not (shape? c)) ∷ rule_checks c q room

-- failed kind 2 asks nothing of the next area but its length
abbrev pub settle_checks : Bytes → Bytes → ℕ → ℕ → Checks
settle_checks cur next kind outcome =
    let back = eqb kind 2 && eqb outcome 1 in
    on cur λ q. (3, not back && unsound? next) ∷ (2, back && ltb (length next) (need q.limits)) ∷ (5, not (settle_shape? kind outcome)) ∷ (17, eqb outcome 1) ∷ []

-- document 02, P8: "a share over P is 1"; of shares that are not whole none is read
abbrev pub fresh_checks : Limits → ℕ → ℕ → Checks
fresh_checks m shares area = (1, not (in_range m)) ∷ (1, eqb shares 64 && not (shares_right? m)) ∷ (2, ltb area (need m)) ∷ (5, not (eqb shares 64)) ∷ []

-- document 02, P12
abbrev pub fees_checks : List Rec → ℕ → ℕ → ℕ → Checks
fees_checks c limit budget room =
    (5, not (budget? budget)) ∷ (21, ltb top (total fee_of c)) ∷ (4, ltb room (length (best_bytes (best_fees_value size_of fee_of c limit budget)))) ∷ []

-- document 02, P13: "22 .., after 16 and before 4"
abbrev pub convert_checks : Bytes → ℕ → Checks
convert_checks text room =
    (16, not (is_some (read_newest text))) ∷ maybe [] (λ q. (22, not (says? oldest q)) ∷ (4, ltb room (length (image_under oldest q))) ∷ []) (read_newest text)

-- every exported call
pub record Demand1 : Type 0 where
  pub changing : (c : Call) (cur next out : Bytes) → Answers (call_of c cur next out) (next, out) (call_checks c cur (length next) (length out))
  pub settling : (cur next : Bytes) (kind outcome : ℕ) → Answers (settle_of cur next kind outcome) next (settle_checks cur next kind outcome)
  pub fresh : (p b t k : ℕ) (shares area : Bytes) → Answers (fresh_of p b t k shares area) area (fresh_checks (limits_of p b t k shares) (length shares) (length area))
  pub sound : (area : Bytes) → refusal (sound_of area) ≡ first_of ((3, unsound? area) ∷ [])
  pub image : (area out : Bytes) (old : ℕ) → Answers (image_of area out old) (out, old) (on area λ q. (4, ltb (length out) (length (image_bytes q))) ∷ [])
  pub opening : (text area : Bytes)
      → Answers (open_of text area) area ((16, not (is_some (read_image text))) ∷ maybe [] (λ q. (2, ltb (length area) (need q.limits)) ∷ []) (read_image text))
  pub need : (m : Limits) (old : ℕ) → Answers (need_of m old) old ((1, not (in_range m)) ∷ [])
  pub limits : (text : Bytes) (old : Five) (shares : Bytes)
      → Answers (image_limits_of text old shares) (old, shares) ((16, not (is_some (read_image text))) ∷ maybe [] (λ q. (4, ltb (length shares) 64) ∷ []) (read_image text))
  pub converting : (text out : Bytes) (old : ℕ) → Answers (convert_of text out old) (out, old) (convert_checks text (length out))
  pub reading : (f : Queue → Bytes) (area out : Bytes) → Answers (read_of f area out) out (on area λ q. (4, ltb (length out) (length (f q))) ∷ [])
  pub number : (f : Queue → ℕ) (area : Bytes) (old : ℕ) → Answers (number_of f area old) old (on area λ q. [])
  pub entry : (area id out : Bytes)
      → Answers (entry_of area id out) out (on area λ q. (5, not (id? id)) ∷ (13, not (is_some (find (named? id) q.recs))) ∷ (4, maybe false (λ r. ltb (length out) (length (entry_bytes r))) (find (named? id) q.recs)) ∷ [])
  pub signed : (area id : Bytes) (old : ℕ × ℕ)
      → Answers (signed_bytes_of area id old) old (on area λ q. (5, not (id? id)) ∷ (13, maybe true (λ r. not (holder? r)) (find (named? id) q.recs)) ∷ [])
  pub fees : (area : Bytes) (limit budget now height : ℕ) (out : Bytes)
      → Answers (best_fees_of area limit budget now height out) out (on area λ q. fees_checks (candidates now height q) limit budget (length out))
