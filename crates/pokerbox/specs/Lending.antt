-- What a node lends by the numbers that it was given is enough: neither a fresh queue nor opening is then refused by 2. And the
-- limits of an image are those of its queue. Assumes nothing.
use Rattle.std.specs.Prelude.{◌≡◌, refl, Bool, true, false, [], ◌∷◌, ◌++◌, ℕ, ◌≤◌, ltb, length, replicate}
use Rattle.std.proofs.Math.Option.{Option, none, some}
use Rattle.std.proofs.Common.{arith, le-ltb}
use Rattle.queue.specs.declared.Kind.TheVariants.{Nothing}
use Rattle.queue.specs.paper.Answer.{Refused, Done}
use Rattle.queue.specs.Codec.{cases}
use Rattle.queue.specs.Areas.{read_image}
use Rattle.queue.specs.check.AreaAs.{limits}
use Rattle.queue.specs.theorems.SoundParts.{Fit, fit_sound, fit_ok}
use Rattle.queue.specs.theorems.Bound.{image_reads, fit_image}
use Rattle.queue.specs.theorems.CallsKeeps.{fresh_fit}
use Rattle.queue.specs.paper.Records.{Bytes, Limits, Queue}
use Rattle.queue.specs.paper.Ids.{cmp_l}
use Rattle.queue.specs.paper.Sound.{in_range, shares_right?, need}
use Rattle.queue.specs.paper.Kinds.{first_share, says?}
use Rattle.queue.specs.paper.Area.{shares_bytes, image_under, image_bytes, over}
use Rattle.queue.specs.paper.Calls.{limits_of, fresh, fresh_of}
use Rattle.image.specs.paper.Image.{open_of, Five, limits_need, need_of, image_limits_of}

refused_done : {X : Type 0} {n : ℕ} → Refused n ≡ Done Nothing → X
refused_done e = let z : ◌≡◌ {A = ℕ} 1 0 = cc in absurd (omega arith)

pub lend_fresh : (p b t k : ℕ) (shares : Bytes) (old : ℕ) (area : Bytes) → (need_of (limits p b t k) old).0 ≡ Done Nothing → (need_of (limits p b t k) old).1 ≤ length area
    → length shares ≡ 64 → shares_right? (limits_of p b t k shares) ≡ true → (fresh_of p b t k shares area).0 ≡ Done Nothing
unfolding need_of fresh_of in_range need
lend_fresh p b t k shares old area e h l s = go (in_range (limits p b t k)) refl
  where
    go : (c : Bool) → in_range (limits p b t k) ≡ c → (fresh_of p b t k shares area).0 ≡ Done Nothing
    go true r = rw (r, l, s, le-ltb (length area) (need (limits p b t k)) (rw r at h))
    go false r = refused_done (rw r at e)

pub lend_open : (text : Bytes) (old : Five) (shares area : Bytes) → (image_limits_of text old shares).0 ≡ Done Nothing → (image_limits_of text old shares).1.0.1.1.1.1 ≤ length area
    → (open_of text area).0 ≡ Done Nothing
unfolding image_limits_of open_of
lend_open text old shares area e h = go (read_image text) refl
  where
    go : (o : Option Queue) → read_image text ≡ o → (open_of text area).0 ≡ Done Nothing
    go none t = refused_done (rw t at e)
    go (some q) t = cases (ltb (length shares) 64)
        (λ u. refused_done (rw (t, u) at e))
        (λ u. rw (t, le-ltb (length area) (need q.limits) (rw (t, u) at h)))

pub image_limits : (q : Queue) (old : Five) (shares : Bytes) → Fit q → q.persisted ≡ q.cursor → 64 ≤ length shares
    → image_limits_of (image_bytes q) old shares ≡ (Done Nothing, (limits_need q.limits, over (shares_bytes q.limits.shares) shares))
unfolding image_limits_of
image_limits q old shares f e h = rw (fit_image q f e, le-ltb (length shares) 64 h)

-- ---- cards: document 01's worked image, under 03 and as it was under 01, and a limit of 0
pub worked_need : (old : ℕ) → need_of (limits 2 10 1 1) old ≡ (Done Nothing, 3476)
unfolding need_of in_range need
worked_need old = refl

pub no_need : (old : ℕ) → need_of (limits 0 10 1 1) old ≡ (Refused 1, old)
unfolding need_of in_range
no_need old = refl

-- its shares: 2, then zeros
abbrev worked : Limits
worked = record { P = 2; B = 10; T = 1; K = 1; shares = first_share 2 }

abbrev two : Bytes
two = (0 ∷ 0 ∷ 0 ∷ 2 ∷ []) ++ replicate 60 0

pub worked_limits : (old : Five) → image_limits_of (image_bytes (fresh worked)) old (replicate 64 9) ≡ (Done Nothing, ((2, (10, (1, (1, 3476)))), two))
unfolding in_range shares_right? need shares_bytes over
worked_limits old = image_limits (fresh worked) old (replicate 64 9) (fresh_fit worked refl) refl (omega arith)

pub older_limits : (old : Five) → image_limits_of (image_under 1 (fresh worked)) old (replicate 64 9) ≡ (Done Nothing, ((2, (10, (1, (1, 3476)))), two))
unfolding image_limits_of in_range shares_right? need says? cmp_l shares_bytes over
older_limits old =
    let q = fresh worked in
    let f = fresh_fit worked refl in
    rw (image_reads 1 q refl refl (fit_sound q f) (fit_ok q f) refl)

pub short_limits : (old : Five) → image_limits_of (image_bytes (fresh worked)) old (replicate 63 9) ≡ (Refused 4, (old, replicate 63 9))
unfolding image_limits_of in_range shares_right?
short_limits old = rw (fit_image (fresh worked) (fresh_fit worked refl) refl)
