-- `fragment_assembler::refusal::admit` meets its contract: each answer is a case of the rows, in their order. Assumes nothing.
use Prim.Native.Nat.{ℕ}
use native.Mathlib.Omega.{arith}
use mathlib.Core.Path.{sym, ap, ◌∙◌}
use mathlib.Core.List.{[]}
use Rattle.std.specs.Prelude.{Result}
use Rattle.outcome.specs.Outcome.{refusal}
use Rattle.outcome.specs.Refusal.{said}
use Rattle.outcome.specs.declared.Refusal.{Refusal}
use Rattle.std.proofs.lemmas.Result.{err_from_is_err_and}
use Rattle.sequence_number.specs.Number.{number_of}
use Rattle.assembly_record.proofs.RulesLaws.{good_size}
use Rattle.assembly_record.proofs.TableLaws.{found_some}
use Rattle.assembly_record.proofs.WordsLaws.{length_places, row_place}
use Rattle.assembly_record.specs.State.{Place}
use Rattle.assembly_record.specs.Words.{assembler_of, places_of}
use Rattle.fragment_assembler.proofs.RefusalLaws.{Asked, asked_known, asked_refuses, asked_opens, call_13, call_4, call_6, number_some, number_none}
use Rattle.fragment_assembler.specs.Fragment.{fragment_of, head_of}
use Rattle.fragment_assembler.proofs.refusal.admit.Goals as goal
use Rattle.fragment_assembler.proofs.refusal.admit.Goals.{in-Some, in-None+in_ok-refuse_opening-in-None}

pub returns-then-long-p-clause-refused : goal.returns-then-long-p-clause-refused
returns-then-long-p-clause-refused c = call_13 (assembler_of c.args.t.now) _ _ c.if-long-p.true

pub returns-in_err-n-clause-refused : goal.returns-in_err-n-clause-refused
returns-in_err-n-clause-refused c =
    let x = c.args in
    let p = err_from_is_err_and c.from_residual.result c.from_residual.ensures.1 in
    let none = number_none x.number c.ranges.number c.number_of.ensures c.in_err-n.ensures.ok_part in
    let is = rw c.in_err-n.ensures.ok_part at c.in_err-n.ensures.value in
    rw (p.1, p.2)
    (ap (λ (r : Result ℕ Refusal). refusal (said r)) is
    ∙ call_4 (assembler_of x.t.now) x.long (head_of (fragment_of 0 (number_of x.number) x.frag)) c.if-long-p.false (sym none))

pub returns-then-frag-f-clause-refused : goal.returns-then-frag-f-clause-refused
returns-then-frag-f-clause-refused c =
    let x = c.args in
    let n = number_some x.number c.in_ok-n.n c.ranges.number c.number_of.ensures c.in_ok-n.ensures.ok_part in
    call_6 (assembler_of x.t.now) x.long (head_of (fragment_of 0 (number_of x.number) x.frag)) c.if-long-p.false (omega (arith, n)) (omega (arith, n)) c.if-frag-f.true

pub offset_bounds-rows-seat : goal.offset_bounds-rows-seat
offset_bounds-rows-seat c =
    omega (arith, (found_some _ (places_of c.args.t.now) c.in-Some.seat (sym c.in-Some.is ∙ c.seek-at.ensures)).1, length_places c.args.t.now)

pub bounds-rows-seat : goal.bounds-rows-seat
bounds-rows-seat c =
    omega (arith, (found_some _ (places_of c.args.t.now) c.in-Some.seat (sym c.in-Some.is ∙ c.seek-at.ensures)).1, length_places c.args.t.now, c.rows.ensures.long)

pub returns-in_err-refuse_opening-in-None-clause-refused : goal.returns-in_err-refuse_opening-in-None-clause-refused
returns-in_err-refuse_opening-in-None-clause-refused c =
    let x = c.args in
    let n = number_some x.number c.in_ok-n.n c.ranges.number c.number_of.ensures c.in_ok-n.ensures.ok_part in
    let h : Asked x.t.now x.long (head_of (fragment_of 0 (number_of x.number) x.frag)) c.in_ok-n.n =
    record { area = c.if-long-p.false; low = n.0; high = n.1; number = n.2; size = c.if-frag-f.false } in
    let p = err_from_is_err_and c.from_residual-in_err-refuse_opening-in-None.result c.from_residual-in_err-refuse_opening-in-None.ensures.1 in
    rw (p.1, p.2) (asked_refuses h (sym c.in-None.is ∙ c.seek-at.ensures) _ c.in_err-refuse_opening-in-None.ensures)

pub refuse_run-requires : goal.refuse_run-requires
refuse_run-requires c =
    let w = c.args.t.now in (
      c.requires.ok.some,
      (
        c.requires.ok.fragment_size,
        elim c.match-at.branch [
          | in-Some x ↦
              let s = found_some _ (places_of w) x.in-Some.seat (sym x.in-Some.is ∙ c.seek-at.ensures) in
              let q = row_place x.rows.result.now (places_of w) x.in-Some.seat [] x.rows.ensures.places (omega (arith, s.1, x.rows.ensures.long, length_places w)) in
              omega (arith, x.d-is, ap (λ (p : Place). p.size) q, good_size w c.requires x.in-Some.seat)
          | in-None+in_ok-refuse_opening-in-None x ↦ omega (arith, x.d-is, c.ranges.frag)
        ],
      ),
    )

pub returns-in_err-refuse_run-clause-refused : goal.returns-in_err-refuse_run-clause-refused
returns-in_err-refuse_run-clause-refused c =
    let x = c.args in
    let n = number_some x.number c.in_ok-n.n c.ranges.number c.number_of.ensures c.in_ok-n.ensures.ok_part in
    let h : Asked x.t.now x.long (head_of (fragment_of 0 (number_of x.number) x.frag)) c.in_ok-n.n =
    record { area = c.if-long-p.false; low = n.0; high = n.1; number = n.2; size = c.if-frag-f.false } in
    let p = err_from_is_err_and c.from_residual-in_err-refuse_run.result c.from_residual-in_err-refuse_run.ensures.1 in
    rw (p.1, p.2)
    (c.in_err-refuse_run.ensures
    ∙ elim c.match-at.branch [
      | in-Some y ↦ asked_known h y.in-Some.seat y.rows.result.now _ (sym y.in-Some.is ∙ c.seek-at.ensures) y.rows.ensures.places y.rows.ensures.long y.d-is
      | in-None+in_ok-refuse_opening-in-None y ↦ asked_opens h (sym y.in-None.is ∙ c.seek-at.ensures) _ y.d-is y.in_ok-refuse_opening-in-None.ensures
    ])

pub returns-clause-refused : goal.returns-clause-refused
returns-clause-refused c =
    let x = c.args in
    let n = number_some x.number c.in_ok-n.n c.ranges.number c.number_of.ensures c.in_ok-n.ensures.ok_part in
    let h : Asked x.t.now x.long (head_of (fragment_of 0 (number_of x.number) x.frag)) c.in_ok-n.n =
    record { area = c.if-long-p.false; low = n.0; high = n.1; number = n.2; size = c.if-frag-f.false } in
    c.in_ok-refuse_run.ensures
    ∙ elim c.match-at.branch [
      | in-Some y ↦ asked_known h y.in-Some.seat y.rows.result.now _ (sym y.in-Some.is ∙ c.seek-at.ensures) y.rows.ensures.places y.rows.ensures.long y.d-is
      | in-None+in_ok-refuse_opening-in-None y ↦ asked_opens h (sym y.in-None.is ∙ c.seek-at.ensures) _ y.d-is y.in_ok-refuse_opening-in-None.ensures
    ]
