-- Request P5, "One pass over the confirmations": what a reconciliation decides of each Mined holder, and what is promised of it.
-- The call itself stays as document 01 has it, in Changing.antt.
use Rattle.std.specs.Prelude.{◌≡◌, ℕ, ◌+◌, ◌-◌, ◌≤◌, Bool, cond, ◌&&◌, ◌||◌, List, [], ◌∷◌, length, nat_le, nat_lt}
use Rattle.queue.specs.paper.Records.{Id, Limits, Rec, Queue}
use Rattle.queue.specs.paper.Lists.{maybe, count, filter, find, sort, map}
use Rattle.queue.specs.paper.Ids.{same?}
use Rattle.queue.specs.paper.Sound.{holder?, mined?, mined_holders, content}
use Rattle.queue.specs.paper.Changing.{Out, refused, done, Reconciling, confirmed?, confirm, mined_height, newer?, to_release, reconcile, top}

-- "kept or released"
pub record Decision : Type 0 where
  pub id : Id
  pub released : Bool

-- the records "after `applied` was entered": document 01's "becomes Mined there .. unless already so confirmed"
unfoldable pub entered : Reconciling → Queue → List Rec
entered c q = map (λ r. maybe r (λ a. cond (mined? r && confirmed? a r.place) r (confirm a r)) (find (λ a. same? r.id a.id) c.applied)) q.recs

-- "every Mined holder"
abbrev pub mined_holder? : Rec → Bool
mined_holder? r = mined? r && holder? r

-- document 01's walk, "counting all seen", with what it decides of each
unfoldable pub decide : Limits → ℕ → ℕ → ℕ → ℕ → List Rec → List Decision
decide m height window seen bytes [] = []
decide m height window seen bytes (r ∷ l) =
    record { id = r.id; released = nat_le window (height - mined_height r) || (nat_le m.P seen || nat_lt m.B (bytes + length (content r.body))) }
    ∷ decide m height window (seen + 1) (bytes + length (content r.body)) l

-- "let each reconciliation decide every Mined holder": in the order of the walk
unfoldable pub decisions : Reconciling → Queue → List Decision
decisions c q = decide q.limits c.height c.window 0 0 (sort newer? (filter mined_holder? (entered c q)))

-- a refusal's number; 0 of a call that is done
unfoldable pub refusal : {A : Type 0} → Out A → ℕ
refusal (refused n) = n
refusal (done k q a) = 0

-- What is promised.
pub record OnePass (c : Reconciling) (q : Queue) : Type 0 where
  -- "every Mined holder .. exactly once": an id has as many decisions as Mined holders, and that is at most one
  pub each : (i : Id) → count (λ d. same? i d.id) (decisions c q) ≡ count (λ r. mined_holder? r && same? i r.id) (entered c q)
  pub once : (i : Id) → count (λ d. same? i d.id) (decisions c q) ≤ 1
  -- they stand in the order of the walk
  pub order : map (λ d. d.id) (decisions c q) ≡ map (λ r. r.id) (sort newer? (filter mined_holder? (entered c q)))
  -- "kept or released": those released are the ones that the call releases, in its order
  pub gone : map (λ d. d.id) (filter (λ d. d.released) (decisions c q)) ≡ to_release c q
  -- "read refusal 15 off the same decisions": on a queue the call refuses where the counter has no room for those released, and
  -- nowhere else
  pub full : refusal (reconcile c q) ≡ cond (nat_lt top (q.counter + count (λ d. d.released) (decisions c q))) 15 0
  -- the number of decisions is "the number of Mined holders after `applied` was entered"
  pub number : length (decisions c q) ≡ mined_holders (entered c q)
