-- Document 02, P4: a unit that starts from an image of whatever kind. Two worlds whose first files open alike stay alike: with the
-- image that the newest kind has of the queue in the place of the text, the claim's own steps go on. Assumes nothing.
use Rattle.std.specs.Prelude.{◌≡◌, refl, Bool, true, false, List, [], ◌∷◌, ℕ, length, drop}
use Rattle.std.proofs.Common.{ap, sym, ◌∙◌, arith}
use Rattle.std.proofs.Math.Option.{Option, none, some}
use Rattle.queue.specs.declared.Kind.TheVariants.{Nothing, Memory, Whole, Cursor}
use Rattle.queue.specs.paper.Answer.{Answer, Refused, Done}
use Rattle.queue.specs.bytes.ReaderLaws.{false_true}
use Rattle.queue.specs.Areas.{read_image}
use Rattle.queue.specs.theorems.SoundParts.{Fit, of_range}
use Rattle.queue.specs.theorems.Bound.{fit_image, opens_fit, reads_image}
use Rattle.queue.specs.paper.Records.{Bytes, Limits, Queue}
use Rattle.queue.specs.paper.Sound.{limits_right?}
use Rattle.queue.specs.paper.Area.{area_bytes, image_bytes, over}
use Rattle.queue.specs.paper.Calls.{call_of, settle_of}
use Rattle.image.specs.paper.Image.{open_of}
use Rattle.pokerbox.specs.paper.Machine.{Fate, kept, failed, cut_before, cut_after, Lent, Step, call, cut, run, restart, plain_step, World, image_text, starts, restarted, wrote_bytes, settling_bytes, world_step, tells}
use Rattle.pokerbox.specs.paper.Claim.{TextOr, FromImage}
use Rattle.pokerbox.specs.Runs.{images, StoredOk, starts_is, restart_inv, run_same}
use Rattle.pokerbox.specs.Theorem.{same_holds}

-- ---- two worlds with the same area, whose first files are t and t', or the same since a write
pub record Twin (t t' : Bytes) (w w' : World) : Type 0 where
  pub area : w.area ≡ w'.area
  pub unwritten : Bool
  pub before : unwritten ≡ true → (w.file ≡ some t) × (w'.file ≡ some t')
  pub since : unwritten ≡ false → w.file ≡ w'.file

pub record Alike (t t' : Bytes) {A : Type 0} (u v : A × World) : Type 0 where
  pub told : u.0 ≡ v.0
  pub twin : Twin t t' u.1 v.1

module _ (m : Limits) (t t' : Bytes) (same : (other : Bytes) → open_of t other ≡ open_of t' other) where
  twin_starts : (w w' : World) → Twin t t' w w' → (other : Bytes) → starts m w.file other ≡ starts m w'.file other
  unfolding starts
  twin_starts w w' x other = go x.unwritten refl
    where
      go : (b : Bool) → x.unwritten ≡ b → starts m w.file other ≡ starts m w'.file other
      go true e = let f = x.before e in rw (f.0, f.1) (same other)
      go false e = ap (λ f. starts m f other) (x.since e)

  module _ (w w' : World) (x : Twin t t' w w') (l : Lent) (next : Bytes) where
    -- a write replaced the file
    anew : (a a' : Bytes) (f second second' : Option Bytes) → a ≡ a' → Twin t t' (record { area = a; file = f; second = second }) (record { area = a'; file = f; second = second' })
    anew a a' f second second' e = record { area = e; unwritten = false; before = λ z. false_true z; since = λ z. refl }

    -- none did
    as_was : (a a' : Bytes) (second second' : Option Bytes) → a ≡ a' → Twin t t' (record { area = a; file = w.file; second = second }) (record { area = a'; file = w'.file; second = second' })
    as_was a a' second second' e = record { area = e; unwritten = x.unwritten; before = x.before; since = x.since }

    cut_twin : (other : Bytes) (second : Option Bytes) → Twin t t' (restarted m other w.file second) (restarted m other w'.file second)
    cut_twin other second = as_was _ _ second second (ap (λ z. z.1) (twin_starts w w' x other))

    settled : (kind outcome : ℕ) → settle_of w.area next kind outcome ≡ settle_of w'.area next kind outcome
    settled kind outcome = ap (λ (a : Bytes). settle_of a next kind outcome) x.area

    wrote_twin : (kind : ℕ) (fate : Fate) → Alike t t' (wrote_bytes m w l next kind fate) (wrote_bytes m w' l next kind fate)
    wrote_twin kind kept = record { told = ap (λ z. some z.0) (settled kind 0); twin = anew _ _ (some (image_text next l.text)) none none (ap (λ z. z.1) (settled kind 0)) }
    wrote_twin kind (failed second) = record { told = ap (λ z. some z.0) (settled kind 1); twin = as_was _ _ second second (ap (λ z. z.1) (settled kind 1)) }
    wrote_twin kind (cut_before second) = record { told = refl; twin = cut_twin l.other second }
    wrote_twin kind cut_after = record { told = refl; twin = anew _ _ (some (image_text next l.text)) none none refl }

    settling_twin : (fate : Fate) (a : Answer) → Alike t t' (settling_bytes m w l next fate a) (settling_bytes m w' l next fate a)
    settling_twin fate (Refused n) = record { told = refl; twin = x }
    settling_twin fate (Done Nothing) = record { told = refl; twin = x }
    settling_twin fate (Done Memory) = record { told = refl; twin = as_was next next w.second w'.second refl }
    settling_twin fate (Done Whole) = wrote_twin 2 fate
    settling_twin fate (Done Cursor) = wrote_twin 3 fate

  step_twin : (w w' : World) (y : Step) → Twin t t' w w' → Alike t t' (world_step m w y) (world_step m w' y)
  unfolding world_step
  step_twin w w' (call c l fate) x = tell (call_of c w.area l.next l.out) (call_of c w'.area l.next l.out) (ap (λ (a : Bytes). call_of c a l.next l.out) x.area)
    where
      alike : (o : Answer × (Bytes × Bytes))
          → Alike t t' (tells o.0 o.1.1 (settling_bytes m w l o.1.0 fate o.0)) (tells o.0 o.1.1 (settling_bytes m w' l o.1.0 fate o.0))
      alike o =
          let s = settling_twin w w' x l o.1.0 fate o.0 in
          record { told = ap (λ z. record { answer = o.0; out = o.1.1; settled = z }) s.told; twin = s.twin }

      tell : (o o' : Answer × (Bytes × Bytes)) → o ≡ o'
          → Alike t t' (tells o.0 o.1.1 (settling_bytes m w l o.1.0 fate o.0)) (tells o'.0 o'.1.1 (settling_bytes m w' l o'.1.0 fate o'.0))
      tell o o' e = rw e (alike o')
  step_twin w w' (cut l) x = record {
    told = refl;
    twin = record {
      area = ap (λ z. z.1) (twin_starts w w' x l.other);
      unwritten = x.unwritten;
      before = x.before;
      since = x.since;
    };
  }

  run_twin : (xs : List Step) (w w' : World) → Twin t t' w w' → Alike t t' (run (world_step m) w xs) (run (world_step m) w' xs)
  run_twin [] w w' x = record { told = refl; twin = x }
  run_twin (y ∷ xs) w w' x =
      let s = step_twin w w' y x in
      let k = run_twin xs (world_step m w y).1 (world_step m w' y).1 s.twin in
      record { told = cc (s.told, k.told); twin = k.twin }

-- ---- the queue that was stored first
module _ (m : Limits) (q : Queue) (fit : Fit q) (level : q.persisted ≡ q.cursor) where
  -- two images that are the same are of the same queue
  one_queue : (o : Option Queue) → StoredOk m o → some (image_bytes q) ≡ images o → o ≡ some q
  one_queue none s e = let z : ◌≡◌ {A = ℕ} 0 1 = cc in absurd (omega arith)
  one_queue (some r) s e =
      let i : image_bytes q ≡ image_bytes r = cc in
      sym (fit_image r s.0 s.1.0) ∙ ap read_image (sym i) ∙ fit_image q fit level

open_same : (t t' : Bytes) → read_image t ≡ read_image t' → (other : Bytes) → open_of t other ≡ open_of t' other
unfolding open_of
open_same t t' e other = rw e

pub from_image : FromImage
unfolding FromImage over starts
from_image m text q first second xs read lim room ok =
    let fit = opens_fit text q read in
    let lev = (reads_image text q read).1.1.0 in
    let range : limits_right? m ≡ true = ap limits_right? (sym lim) ∙ of_range q.limits fit.sound.range in
    let st : StoredOk m (some q) = (fit, (lev, lim)) in
    let t' = image_bytes q in
    let sam = open_same text t' (read ∙ sym (fit_image q fit lev)) in
    let w : World = record { area = (open_of text first).1; file = some text; second = second } in
    let w' : World = record { area = (open_of t' first).1; file = some t'; second = second } in
    let k = run_twin m text t' sam xs w w' (record { area = ap (λ z. z.1) (sam first); unwritten = true; before = λ z. (refl, refl); since = λ z. false_true (sym z) }) in
    let s = run_same m range xs false (restart m (some q)) w' (restart_inv m false (some q) range st)
    (record { later = drop (length (area_bytes (restart m (some q)).queue)) first; area = ap (λ z. z.1) (starts_is m (some q) first range st room); file = refl }) ok in
    let r = s.rep in
    same_holds m (some q) (TextOr text q) xs (run (world_step m) w xs).0 (run (world_step m) w xs).1 (run (world_step m) w' xs).1 (run (plain_step m) (restart m (some q)) xs) range
    (record { told = k.told ∙ s.told; inv = s.inv; rep = r }) k.twin.area (twin_starts m text t' sam (run (world_step m) w xs).1 (run (world_step m) w' xs).1 k.twin)
    (record {
      unwritten = k.twin.unwritten;
      before = λ e. let z = k.twin.before e in (z.0, one_queue m q fit lev (run (plain_step m) (restart m (some q)) xs).1.stored s.inv.stored (sym z.1 ∙ r.file));
      since = λ e. k.twin.since e ∙ r.file;
    })
