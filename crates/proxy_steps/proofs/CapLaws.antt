-- Laws of `capped` and `ended_proxy`: the lowest numbers go until 256 are left, what the call then answers, and that it is not refused. Assumes nothing.
use Prim.Native.Nat.{ℕ, zero, suc, ◌+◌, ◌-◌, ◌<◌, ◌≤◌, max}
use native.Mathlib.Omega.{arith}
use native.Mathlib.Nat.{not-suc-le-zero, suc-add, zero-add}
use mathlib.Core.Logic.{◌⊎◌, inl, inr, ⊎_elim, ◌↔◌}
use mathlib.Core.Path.{◌≡◌, refl, sym, ap, ◌∙◌, subst}
use mathlib.Core.Bool.{Bool, true, false, cond}
use mathlib.Core.List.{List, [], ◌∷◌}
use lib.ListN.{length, drop, get_or}
use lib.Dec.{ltb}
use borrow.Author.Tests.{lt-ltb, le-ltb}
use Rattle.sequence_number.specs.Number.{top}
use Rattle.outcome.specs.Outcome.{refused, done, refusal, is_refused}
use Rattle.outcome.proofs.Split.{split, split_lt, clash}
use Rattle.outcome.proofs.RowLaws.{refused_number}
use Rattle.proxy_record.specs.Entries.{Entry, RisingEntries, below, from, Tracked}
use Rattle.proxy_record.specs.State.{Proxy, cap}
use Rattle.proxy_record.specs.Rules.{ProxyRules}
use Rattle.proxy_record.specs.Rows.{blank_entry, rank}
use Rattle.proxy_record.proofs.EntriesLaws.{below_none, from_all, from_skip}
use Rattle.proxy_steps.specs.Steps.{ProxyReply, cut_to, lowest_gone, trim, capped, unforced, forced, ended_proxy, refused_proxy}

-- The rules

-- the lowest goes: what is left starts where the base is
ok_lowest : (m : ℕ) (l : List Entry) (s : Proxy) → s.tracked ≡ l → 0 < length l → ProxyRules (suc m) s → ProxyRules m (lowest_gone l s)
ok_lowest m [] s e h o = absurd (not-suc-le-zero h)
ok_lowest m (x ∷ l) s e h o =
    let r : RisingEntries s.base top (x ∷ l) = subst (λ (z : List Entry). RisingEntries s.base top z) e o.rising in
    let b : max s.base (suc x.number) ≡ suc x.number = omega (arith, r.0) in
    record {
      few = omega (arith, ap length e, o.few);
      rising = rw b r.2;
      low = omega (arith, o.low);
      high = rw b r.1;
      last_below = o.last_below;
    }

length_lowest : (l : List Entry) (s : Proxy) → s.tracked ≡ l → length (lowest_gone l s).tracked ≡ length l - 1
length_lowest [] s e = ap length e
length_lowest (x ∷ l) s e = omega arith

ok_trim : (k m : ℕ) (s : Proxy) → k ≤ length s.tracked → ProxyRules (k + m) s → ProxyRules m (trim k s)
ok_trim zero m s h o = rw zero-add at o
ok_trim (suc k) m s h o =
    let p : ProxyRules (suc (k + m)) s = rw suc-add at o in
    let q : ProxyRules (k + m) (lowest_gone s.tracked s) = ok_lowest (k + m) s.tracked s refl (omega arith) p in
    ok_trim k m (lowest_gone s.tracked s) (omega (arith, length_lowest s.tracked s refl)) q

pub ok_capped : (m : ℕ) (s : Proxy) → ProxyRules m s → ProxyRules cap (capped s)
unfolding capped
ok_capped m s o =
    ok_trim (length s.tracked - cap) cap s (omega arith)
    (record { few = omega arith; rising = o.rising; low = o.low; high = o.high; last_below = o.last_below })

pub ok_ended : (m : ℕ) (before s : Proxy) → ProxyRules m s → ProxyRules cap (ended_proxy before s).state
unfolding ended_proxy
ok_ended m before s o = ok_capped m s o

-- Few are tracked, or one too many

pub ended_few : (before s : Proxy) → length s.tracked ≤ cap → ended_proxy before s ≡ record { state = s; answer = done unforced }
unfolding ended_proxy capped
ended_few before s h =
    let n : length s.tracked - cap ≡ 0 = omega arith in
    rw (n, le-ltb cap (length s.tracked) h)

pub lowest_gone_lem : (l : List Entry) (s : Proxy) → 0 < length l
    → lowest_gone l s ≡ record { base = max s.base (suc (get_or l 0 blank_entry).number); tracked = drop 1 l; last = s.last; time = s.time }
lowest_gone_lem [] s h = absurd (not-suc-le-zero h)
lowest_gone_lem (x ∷ l) s h = refl

-- the state before the call plays no part yet: request 7 refuses by it, and this goes
pub ended_before : (a b s : Proxy) → ended_proxy a s ≡ ended_proxy b s
unfolding ended_proxy
ended_before a b s = refl

-- Too many are tracked: where the last that goes is c, what stays is what is above it

pub trim_cut : (c b n t : ℕ) (l : List Entry) → RisingEntries b top l → rank (suc c) l ≡ suc (rank c l)
    → trim (suc (rank c l)) (record { base = b; tracked = l; last = n; time = t }) ≡ record { base = suc c; tracked = from (suc c) l; last = n; time = t }
unfolding below
trim_cut c b n t [] r h = absurd (omega arith)
trim_cut c b n t (x ∷ l) r h =
    let e : max b (suc x.number) ≡ suc x.number = omega (arith, r.0) in
    ⊎_elim
    (λ p.
    let q : x.number < suc c = omega arith in
    let k : suc (rank (suc c) l) ≡ suc (suc (rank c l)) = rw (lt-ltb x.number c p, lt-ltb x.number (suc c) q) at h in
    let o : RisingEntries (max b (suc x.number)) top l = rw e r.2 in
    rw (lt-ltb x.number c p, from_skip (suc c) x l q) (trim_cut c (max b (suc x.number)) n t l o (omega arith)))
    (λ p.
    let z : c ≤ suc x.number = omega arith in
    let y : suc c ≤ suc x.number = omega arith in
    ⊎_elim
    (λ q.
    let i : max b (suc x.number) ≡ suc c = omega arith in
    let o : l ≡ from (suc c) (x ∷ l) = sym (from_skip (suc c) x l q ∙ from_all (suc x.number) top (suc c) l r.2 y) in
    rw (le-ltb x.number c p, below_none (suc x.number) top c l r.2 z) (λ m. record { base = i m; tracked = o m; last = n; time = t }))
    (λ q.
    let k : ◌≡◌ {A = ℕ} 0 1 = rw (le-ltb x.number c p, le-ltb x.number (suc c) q, below_none (suc x.number) top c l r.2 z, below_none (suc x.number) top (suc c) l r.2 y) at h in
    absurd (omega arith))
    (split_lt x.number (suc c)))
    (split_lt x.number c)

pub ended_cut : (before s : Proxy) (c b : ℕ) → RisingEntries s.base top s.tracked → b ≡ suc c → rank (suc c) s.tracked ≡ suc (rank c s.tracked)
    → length s.tracked ≡ cap + rank b s.tracked → ended_proxy before s ≡ record { state = cut_to b s; answer = done (forced s.base b) }
unfolding ended_proxy capped
ended_cut before s c b r e f h =
    let i : rank b s.tracked ≡ suc (rank c s.tracked) = ap (λ (x : ℕ). rank x s.tracked) e ∙ f in
    let n : length s.tracked - cap ≡ suc (rank c s.tracked) = omega arith in
    let j : cap < length s.tracked = omega arith in
    rw (n, lt-ltb cap (length s.tracked) j, trim_cut c s.base s.last s.time s.tracked r f, e)

-- No step lowers the base

base_lowest : (l : List Entry) (s : Proxy) → s.base ≤ (lowest_gone l s).base
base_lowest [] s = omega arith
base_lowest (x ∷ l) s = omega arith

base_trim : (k : ℕ) (s : Proxy) → s.base ≤ (trim k s).base
base_trim zero s = omega arith
base_trim (suc k) s = omega (arith, base_lowest s.tracked s, base_trim k (lowest_gone s.tracked s))

pub base_ended : (before s : Proxy) → s.base ≤ (ended_proxy before s).state.base
unfolding ended_proxy capped
base_ended before s = base_trim (length s.tracked - cap) s

-- a number that was tracked is tracked still, or below the base
lowest_passes : (n : ℕ) (l : List Entry) (s : Proxy) → s.tracked ≡ l → Tracked n l → (n < (lowest_gone l s).base) ⊎ Tracked n (lowest_gone l s).tracked
lowest_passes n [] s e t = absurd t
lowest_passes n (x ∷ l) s e (inl f) = inl (omega arith)
lowest_passes n (x ∷ l) s e (inr t) = inr t

trim_passes : (k n : ℕ) (s : Proxy) → Tracked n s.tracked → (n < (trim k s).base) ⊎ Tracked n (trim k s).tracked
trim_passes zero n s t = inr t
trim_passes (suc k) n s t =
    ⊎_elim
    (λ h. inl (omega (arith, base_trim k (lowest_gone s.tracked s))))
    (λ u. trim_passes k n (lowest_gone s.tracked s) u)
    (lowest_passes n s.tracked s refl t)

pub ended_passes : (n : ℕ) (before s : Proxy) → Tracked n s.tracked → (n < (ended_proxy before s).state.base) ⊎ Tracked n (ended_proxy before s).state.tracked
unfolding ended_proxy capped
ended_passes n before s t = trim_passes (length s.tracked - cap) n s t

-- A call that goes on to the cap is not refused

pub ended_accepted : (before s : Proxy) (k : ℕ) → (ended_proxy before s).answer ≡ refused k → ⊥
unfolding ended_proxy
ended_accepted before s k =
    split (ltb cap (length s.tracked))
    (λ e. rw e (λ h. let z : ◌≡◌ {A = ℕ} 0 1 = cc in omega arith))
    (λ e. rw e (λ h. let z : ◌≡◌ {A = ℕ} 0 1 = cc in omega arith))

pub ended_number : (before s : Proxy) → refusal (ended_proxy before s).answer ≡ 0
unfolding ended_proxy
ended_number before s = split (ltb cap (length s.tracked)) (λ e. rw e) (λ e. rw e)

-- A call that is refused by one test, and goes on to the cap otherwise: refused, it changes nothing

module _ (j : ℕ) (s : Proxy) (x : ProxyReply) (h : (k : ℕ) → x.answer ≡ refused k → ⊥) where
  pub unless_same : (b : Bool) (k : ℕ) → (cond b x (refused_proxy j s)).answer ≡ refused k → (cond b x (refused_proxy j s)).state ≡ s
  unless_same true k e = absurd (h k e)
  unless_same false k e = refl

  pub unless_refused : (b : Bool) → (is_refused (cond b x (refused_proxy j s)).answer ≡ true) ↔ (b ≡ false)
  unless_refused true = (λ e. absurd (h _ (refused_number x.answer e)), λ e. absurd (clash true refl e))
  unless_refused false = (λ e. refl, λ e. refl)

  pub if_refused : (b : Bool) → (is_refused (cond b (refused_proxy j s) x).answer ≡ true) ↔ (b ≡ true)
  if_refused true = (λ e. refl, λ e. refl)
  if_refused false = (λ e. absurd (h _ (refused_number x.answer e)), λ e. absurd (clash false e refl))

  pub if_same : (b : Bool) (k : ℕ) → (cond b (refused_proxy j s) x).answer ≡ refused k → (cond b (refused_proxy j s) x).state ≡ s
  if_same false k e = absurd (h k e)
  if_same true k e = refl
