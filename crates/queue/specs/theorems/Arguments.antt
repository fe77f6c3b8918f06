-- Lent bytes and numbers that fit as the arguments of a call.
use Rattle.std.specs.Prelude.{◌≡◌, refl, true, false, ◌&&◌, ◌||◌, List, [], ◌∷◌, ℕ, zero, suc, ◌*◌, ◌/◌, ◌^◌, ◌≤◌, ◌<◌, ltb, eqb, length, take, drop}
use Rattle.std.proofs.Common.{ap, ◌∙◌, arith, div-add-mod', length-drop, length-take-le, ltb-false, leb-true, eqb-true}
use Rattle.std.proofs.Math.Nat.{pow-succ'}
use Rattle.std.proofs.Math.Arith.{digits_lt}
use Rattle.queue.specs.Codec.{cases, All, Codec, byte_c, be_c, opt_c, vec_c}
use Rattle.queue.specs.layout.FrameCodec.{id_c}
use Rattle.queue.specs.Lists.{and_true}
use Rattle.queue.specs.bytes.OrderLaws.{or_false, or_true}
use Rattle.queue.specs.theorems.AdmitKeeps.{LabelBytes, Admissible}
use Rattle.queue.specs.theorems.ReconcileKeeps.{AppliedOk, Reconcilable}
use Rattle.queue.specs.paper.Records.{Bytes}
use Rattle.queue.specs.paper.Lists.{map}
use Rattle.queue.specs.paper.Sound.{caller_right?}
use Rattle.queue.specs.paper.Area.{be_val}
use Rattle.queue.specs.Checked.{admit_shape?, reconcile_shape?}
use Rattle.queue.specs.paper.Calls.{id?, whole?, pieces, items, flag?, given, given_id?, AdmitArgs, admission, over_k?, ReconcileArgs, applied_of, reconciliation}

abbrev pub Small : Bytes → Type 0
Small s = All (λ b. b < 256) s

take_small : (n : ℕ) (s : Bytes) → Small s → Small (take n s)
take_small zero s h = tt
take_small (suc n) [] h = tt
take_small (suc n) (b ∷ s) h = (h.0, take_small n s h.1)

drop_small : (n : ℕ) (s : Bytes) → Small s → Small (drop n s)
drop_small zero s h = h
drop_small (suc n) [] h = tt
drop_small (suc n) (b ∷ s) h = drop_small n s h.1

pub id_ok : (s : Bytes) → id? s ≡ true → Small s → id_c.ok s
unfolding id_c vec_c byte_c
id_ok s e h = (h, eqb-true (length s) 32 e)

-- items of n small bytes
pieces_ok : (n k : ℕ) (s : Bytes) → k * n ≤ length s → Small s → All (λ p. Small p × (length p ≡ n)) (pieces n k s) × (length (pieces n k s) ≡ k)
pieces_ok n zero s h w = (tt, refl)
pieces_ok n (suc k) s h w =
    let l = length-drop n s in
    let i = pieces_ok n k (drop n s) (omega arith) (drop_small n s w) in
    (((take_small n s w, length-take-le n s (omega arith)), i.0), ap suc i.1)

pub items_ok : (n : ℕ) (s : Bytes) → Small s → All (λ p. Small p × (length p ≡ n)) (items n s) × (length (items n s) ≡ length s / n)
unfolding items
items_ok n s h = let e = div-add-mod' (length s) n in pieces_ok n (length s / n) s (omega arith) h

pub ids_ok : (s : Bytes) → Small s → All id_c.ok (items 32 s)
unfolding id_c vec_c byte_c
ids_ok s h = (items_ok 32 s h).0

be_lt : (s : Bytes) → Small s → be_val s < 256 ^ length s
unfolding be_val
be_lt [] h = omega arith
be_lt (b ∷ s) h = rw pow-succ' (digits_lt h.0 (be_lt s h.1))

given_ok : {A : Type 0} (𝓐 : Codec A) (flag : ℕ) (a : A) → 𝓐.ok a → (opt_c 𝓐).ok (given flag a)
unfolding opt_c
given_ok 𝓐 flag a h = cases (eqb flag 1) (λ t. rw t h) (λ t. rw t tt)

pub given_id : (flag : ℕ) (s : Bytes) → given_id? flag s ≡ true → Small s → (opt_c id_c).ok (given flag s)
unfolding opt_c
given_id flag s e h = let a = and_true (flag? flag) (eqb flag 0 || id? s) e in or_true (eqb flag 0) (id? s) a.1
    (λ t. let z = eqb-true flag 0 t in rw z tt)
    (λ _ t. given_ok id_c flag s (id_ok s t h))

label_small_law : (flag : ℕ) (s : Bytes) → Small s → LabelBytes (given flag s)
label_small_law flag s h = cases (eqb flag 1) (λ t. rw t h) (λ t. rw t tt)

-- what is lent to an admission
pub record AdmitLent (a : AdmitArgs) : Type 0 where
  pub id : Small a.id
  pub inputs : Small a.inputs
  pub outputs : Small a.outputs
  pub reads : Small a.reads
  pub bytes : Small a.bytes
  pub now : a.now < 256 ^ 8
  pub time : a.time < 256 ^ 8
  pub height : a.height < 256 ^ 4
  pub priority : a.priority < 256 ^ 8
  pub label : Small a.label
  pub fee : a.fee < 256 ^ 8
  pub cost : a.cost < 256 ^ 8
  pub tip_height : a.tip_height < 256 ^ 4
  pub tip : Small a.tip

pub admission_ok : (K : ℕ) (a : AdmitArgs) → AdmitLent a → admit_shape? a ≡ true → over_k? K a ≡ false → Admissible K (admission a)
unfolding be_c
admission_ok K a h e o =
    let s = and_true ((id? a.id && caller_right? a.caller) && (whole? 32 a.inputs && (whole? 32 a.outputs && whole? 32 a.reads))) _ e in
    let s0 = and_true (id? a.id) (caller_right? a.caller) (and_true (id? a.id && caller_right? a.caller) _ s.0).0 in
    let s1 = and_true (flag? a.time_flag && flag? a.height_flag) (flag? a.label_flag && given_id? a.tip_flag a.tip) s.1 in
    let s2 = and_true (flag? a.label_flag) (given_id? a.tip_flag a.tip) s1.1 in
    let k = or_false (ltb K (length a.inputs / 32)) _ o in
    let l = or_false (ltb K (length a.outputs / 32)) (ltb K (length a.reads / 32)) k.1 in
    let i = (items_ok 32 a.inputs h.inputs).1 in
    let j = (items_ok 32 a.outputs h.outputs).1 in
    let m = (items_ok 32 a.reads h.reads).1 in
    record {
      id = id_ok a.id s0.0 h.id;
      caller = leb-true a.caller 15 s0.1;
      now = h.now;
      due = given_ok (be_c 8) a.time_flag a.time h.time;
      due_height = given_ok (be_c 4) a.height_flag a.height h.height;
      priority = h.priority;
      label = label_small_law a.label_flag a.label h.label;
      fee = h.fee;
      cost = h.cost;
      ins = ids_ok a.inputs h.inputs;
      outs = ids_ok a.outputs h.outputs;
      reads = ids_ok a.reads h.reads;
      bytes = h.bytes;
      few_ins = let z = ltb-false K (length a.inputs / 32) k.0 in omega arith;
      few_outs = let z = ltb-false K (length a.outputs / 32) l.0 in omega arith;
      few_reads = let z = ltb-false K (length a.reads / 32) l.1 in omega arith;
      tip_height = h.tip_height;
      tip = given_id a.tip_flag a.tip s2.1 h.tip;
    }

-- what is lent to a reconciliation
pub record ReconcileLent (a : ReconcileArgs) : Type 0 where
  pub height : a.height < 256 ^ 4
  pub tip : Small a.tip
  pub applied : Small a.applied

applied_ok : (l : List Bytes) → All (λ p. Small p × (length p ≡ 68)) l → All AppliedOk (map applied_of l)
unfolding id_c vec_c byte_c
applied_ok [] h = tt
applied_ok (s ∷ l) h =
    let z = h.0.1 in
    let d = length-drop 32 s in
    let t = length-take-le 4 (drop 32 s) (omega arith) in
    let b = be_lt (take 4 (drop 32 s)) (take_small 4 (drop 32 s) (drop_small 32 s h.0.0)) in
    ((rw t at b, (drop_small 36 s h.0.0, length-drop 36 s ∙ omega arith)), applied_ok l h.1)

pub reconciling_ok : (a : ReconcileArgs) → ReconcileLent a → reconcile_shape? a ≡ true → Reconcilable (reconciliation a)
reconciling_ok a h e =
    let s = and_true _ _ e in
    let t = and_true (id? a.tip) _ s.0 in
    record { height = h.height; tip = id_ok a.tip t.0 h.tip; applied = applied_ok (items 68 a.applied) (items_ok 68 a.applied h.applied).0 }
