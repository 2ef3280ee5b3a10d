use Rattle.std.proofs.Common.{rules, ◌≡◌, ◌-◌, ◌<◌, ◌∙◌, sym, subst, arith, refl, length}
use Rattle.std.specs.Prelude.{vec_len, vec_capacity, Result, Ok, Err}
use Rattle.std.specs.Result.{OnErr}
use Rattle.std.proofs.lemmas.List.{take-set}
use Rattle.trie_model.specs.Walks.{AllFrugal, Roomy, work}
use Rattle.trie_model.proofs.Places.{elim-false}
use Rattle.trie_model.proofs.TrieMaps.{none_counted}
use Rattle.trie_model.proofs.WalkLaws.{nothing_left}
use Rattle.trie_model.proofs.Levels.{top_of}
use Rattle.trie_model.proofs.RoomLaws.{below_top, room_on, room_for_child, room_down, frugal_split, frugal_push}
use Rattle.trie_model.proofs.WorkLaws.{work_none, work_popped}
use Rattle.trie_map.proofs.Skips.{last_of, not_more, top_done, top_gave, top_child}
use Rattle.trie_map.proofs.walk.advance.Goals as goal

pub returns-in_default-clause-moved : goal.returns-in_default-clause-moved
returns-in_default-clause-moved g c n x h =
    let none = c.in_default.ensures.variant in
    let len : length c.args.levels.now.items ≡ vec_len c.args.levels.now = search rules in
    let zero = not_more (vec_len c.args.levels.now) (λ lt. elim-false (none.1 lt)) in
    nothing_left _ c.args.levels.now.items (len ∙ zero) n x h

pub returns-in_default-clause-less : goal.returns-in_default-clause-less
returns-in_default-clause-less g c =
    let none = c.in_default.ensures.variant in
    let len : length c.args.levels.now.items ≡ vec_len c.args.levels.now = search rules in
    let zero = not_more (vec_len c.args.levels.now) (λ lt. elim-false (none.1 lt)) in
    work_none g.V.P.Number.KeyBits.width (λ k. g.V.TrieView.told k.view) (λ k. k.spot) c.args.levels.now.items (none_counted c.args.levels.now.items (vec_len c.args.levels.now) len zero)

pub take_first-requires : goal.take_first-requires
take_first-requires g c κs =
    let last = last_of c.args.levels.now.items (vec_len c.args.levels.now) c.in-Some.level.now (search rules) (let some = c.in-Some.ensures.variant in search (rules, some))
    c.in-Some.ensures.value in
    let top = top_of _ _ _ _ _ _ c.in-Some.level.now last.was c.requires.usable in
    ((refl, tt), (top.usable, (top.first, top.last)))

pub returns-in_err-take_first-clause-frugal : goal.returns-in_err-take_first-clause-frugal
returns-in_err-take_first-clause-frugal g c =
    let last = last_of c.args.levels.now.items (vec_len c.args.levels.now) c.in-Some.level.now (search rules) (let some = c.in-Some.ensures.variant in search (rules, some))
    c.in-Some.ensures.value in
    λ all. absurd (elim-false (c.in_err-take_first.ensures.frugal (frugal_split (λ k. g.V.TrieView.told k.view) c.args.levels.now.items _ c.in-Some.level.now last.was all).1))

on_err : {T E : Type 0} {P : Type 0} (r : Result T E) → P → OnErr r P
on_err (Ok x) h = tt
on_err (Err e) h = h

pub returns-in_err-take_first-clause-busy : goal.returns-in_err-take_first-clause-busy
returns-in_err-take_first-clause-busy g c =
    let last = last_of c.args.levels.now.items (vec_len c.args.levels.now) c.in-Some.level.now (search rules) (let some = c.in-Some.ensures.variant in search (rules, some))
    c.in-Some.ensures.value in
    let less = work_popped g.V.P.Number.KeyBits.width (λ k. g.V.TrieView.told k.view) (λ k. k.spot) c.args.levels.now.items _ c.in-Some.level.now last.was in
    let busy : 0 < work g.V.P.Number.KeyBits.width (λ k. g.V.TrieView.told k.view) (λ k. k.spot) c.args.levels.now.items = omega (arith, less) in
    on_err c.from_residual.result busy

pub push_level-requires : goal.push_level-requires
push_level-requires g c =
    let last = last_of c.args.levels.now.items (vec_len c.args.levels.now) c.in-Some.level.now (search rules) (let some = c.in-Some.ensures.variant in search (rules, some))
    c.in-Some.ensures.value in
    let below = below_top g.V.P.Number.KeyBits.width (λ k. g.V.TrieView.told k.view) c.args.levels.now.items _ c.in-Some.level.now (vec_capacity c.args.levels.now) _ last.was refl
    ((g.met.V.TrieView c.lifetimes (search rules)).laws _ (top_of _ _ _ _ _ _ c.in-Some.level.now last.was c.requires.usable).usable) c.requires.room in
    let step = rw c.in-Child.is at c.in_ok-take_first.ensures.step in
    room_for_child g.V.P.Number.KeyBits.width (λ k. g.V.TrieView.told k.view) _ _ c.in-Some.level.now c.take_first.new.level step.0 _ _ below
    ((g.met.V.TrieView c.lifetimes (search rules)).laws _ (top_of _ _ _ _ _ _ c.in-Some.level.now last.was c.requires.usable).usable) step.1.set (last.set c.take_first.new.level) (omega arith)

pub returns-in-Done-clause-usable : goal.returns-in-Done-clause-usable
returns-in-Done-clause-usable g c =
    let last = last_of c.args.levels.now.items (vec_len c.args.levels.now) c.in-Some.level.now (search rules) (let some = c.in-Some.ensures.variant in search (rules, some))
    c.in-Some.ensures.value in
    let popped = c.pop-done.ensures.rest ∙ take-set c.args.levels.now.items (vec_len c.args.levels.now - 1) c.take_first.new.level in
    let step = rw c.in-Done.is at c.in_ok-take_first.ensures.step in
    (top_done g.V.TrieView.valid g.V.TrieView.told g.V.P.Number.KeyBits.width (g.met.V.TrieView c.lifetimes (search rules)).laws c.args.levels.now.items _ _ c.in-Some.level.now last.was popped c.requires.usable step.1).0.usable

pub returns-in-Done-clause-moved : goal.returns-in-Done-clause-moved
returns-in-Done-clause-moved g c =
    let last = last_of c.args.levels.now.items (vec_len c.args.levels.now) c.in-Some.level.now (search rules) (let some = c.in-Some.ensures.variant in search (rules, some))
    c.in-Some.ensures.value in
    let popped = c.pop-done.ensures.rest ∙ take-set c.args.levels.now.items (vec_len c.args.levels.now - 1) c.take_first.new.level in
    let step = rw c.in-Done.is at c.in_ok-take_first.ensures.step in
    (top_done g.V.TrieView.valid g.V.TrieView.told g.V.P.Number.KeyBits.width (g.met.V.TrieView c.lifetimes (search rules)).laws c.args.levels.now.items _ _ c.in-Some.level.now last.was popped c.requires.usable step.1).1

pub returns-in-Done-clause-room : goal.returns-in-Done-clause-room
returns-in-Done-clause-room g c =
    let last = last_of c.args.levels.now.items (vec_len c.args.levels.now) c.in-Some.level.now (search rules) (let some = c.in-Some.ensures.variant in search (rules, some))
    c.in-Some.ensures.value in
    let popped = c.pop-done.ensures.rest ∙ take-set c.args.levels.now.items (vec_len c.args.levels.now - 1) c.take_first.new.level in
    let below = below_top g.V.P.Number.KeyBits.width (λ k. g.V.TrieView.told k.view) c.args.levels.now.items _ c.in-Some.level.now (vec_capacity c.args.levels.now) _ last.was c.pop-done.ensures.capacity
    ((g.met.V.TrieView c.lifetimes (search rules)).laws _ (top_of _ _ _ _ _ _ c.in-Some.level.now last.was c.requires.usable).usable) c.requires.room in
    subst (λ z. Roomy g.V.P.Number.KeyBits.width (λ k. g.V.TrieView.told k.view) z (vec_capacity c.pop-done.new.self)) (sym popped) below.roomy

pub returns-in-Done-clause-stays : goal.returns-in-Done-clause-stays
returns-in-Done-clause-stays g c =
    let last = last_of c.args.levels.now.items (vec_len c.args.levels.now) c.in-Some.level.now (search rules) (let some = c.in-Some.ensures.variant in search (rules, some))
    c.in-Some.ensures.value in
    let popped = c.pop-done.ensures.rest ∙ take-set c.args.levels.now.items (vec_len c.args.levels.now - 1) c.take_first.new.level in
    λ all. subst (AllFrugal (λ k. g.V.TrieView.told k.view)) (sym popped) (frugal_split (λ k. g.V.TrieView.told k.view) c.args.levels.now.items _ c.in-Some.level.now last.was all).0

pub returns-in-Done-clause-less : goal.returns-in-Done-clause-less
returns-in-Done-clause-less g c =
    let last = last_of c.args.levels.now.items (vec_len c.args.levels.now) c.in-Some.level.now (search rules) (let some = c.in-Some.ensures.variant in search (rules, some))
    c.in-Some.ensures.value in
    let popped = c.pop-done.ensures.rest ∙ take-set c.args.levels.now.items (vec_len c.args.levels.now - 1) c.take_first.new.level in
    let step = rw c.in-Done.is at c.in_ok-take_first.ensures.step in
    (top_done g.V.TrieView.valid g.V.TrieView.told g.V.P.Number.KeyBits.width (g.met.V.TrieView c.lifetimes (search rules)).laws c.args.levels.now.items _ _ c.in-Some.level.now last.was popped c.requires.usable step.1).0.less

pub returns-in-Item-clause-usable : goal.returns-in-Item-clause-usable
returns-in-Item-clause-usable g c =
    let last = last_of c.args.levels.now.items (vec_len c.args.levels.now) c.in-Some.level.now (search rules) (let some = c.in-Some.ensures.variant in search (rules, some))
    c.in-Some.ensures.value in
    let step = rw c.in-Item.is at c.in_ok-take_first.ensures.step in
    (top_gave g.V.TrieView.valid g.V.TrieView.told g.V.P.Number.KeyBits.width (g.met.V.TrieView c.lifetimes (search rules)).laws c.args.levels.now.items _ _ c.in-Some.level.now c.take_first.new.level _ _ step.0 last.was (last.set c.take_first.new.level)
    c.requires.usable step.1.0 c.in_ok-take_first.ensures.usable c.in_ok-take_first.ensures.first c.in_ok-take_first.ensures.last).0.usable

pub returns-in-Item-clause-moved : goal.returns-in-Item-clause-moved
returns-in-Item-clause-moved g c =
    let last = last_of c.args.levels.now.items (vec_len c.args.levels.now) c.in-Some.level.now (search rules) (let some = c.in-Some.ensures.variant in search (rules, some))
    c.in-Some.ensures.value in
    let step = rw c.in-Item.is at c.in_ok-take_first.ensures.step in (
      (top_gave g.V.TrieView.valid g.V.TrieView.told g.V.P.Number.KeyBits.width (g.met.V.TrieView c.lifetimes (search rules)).laws c.args.levels.now.items _ _ c.in-Some.level.now c.take_first.new.level _ _ step.0 last.was (last.set c.take_first.new.level)
          c.requires.usable step.1.0 c.in_ok-take_first.ensures.usable c.in_ok-take_first.ensures.first c.in_ok-take_first.ensures.last).1,
      step.1.1,
    )

pub returns-in-Item-clause-room : goal.returns-in-Item-clause-room
returns-in-Item-clause-room g c =
    let last = last_of c.args.levels.now.items (vec_len c.args.levels.now) c.in-Some.level.now (search rules) (let some = c.in-Some.ensures.variant in search (rules, some))
    c.in-Some.ensures.value in
    let below = below_top g.V.P.Number.KeyBits.width (λ k. g.V.TrieView.told k.view) c.args.levels.now.items _ c.in-Some.level.now (vec_capacity c.args.levels.now) _ last.was refl
    ((g.met.V.TrieView c.lifetimes (search rules)).laws _ (top_of _ _ _ _ _ _ c.in-Some.level.now last.was c.requires.usable).usable) c.requires.room in
    let step = rw c.in-Item.is at c.in_ok-take_first.ensures.step in
    room_on g.V.P.Number.KeyBits.width (λ k. g.V.TrieView.told k.view) _ _ c.in-Some.level.now c.take_first.new.level _ _ below (last.set c.take_first.new.level) (omega arith) step.1.0.took.place

pub returns-in-Item-clause-stays : goal.returns-in-Item-clause-stays
returns-in-Item-clause-stays g c =
    let last = last_of c.args.levels.now.items (vec_len c.args.levels.now) c.in-Some.level.now (search rules) (let some = c.in-Some.ensures.variant in search (rules, some))
    c.in-Some.ensures.value in
    let step = rw c.in-Item.is at c.in_ok-take_first.ensures.step in
    λ all.
    let split = frugal_split (λ k. g.V.TrieView.told k.view) c.args.levels.now.items _ c.in-Some.level.now last.was all in
    frugal_push (λ k. g.V.TrieView.told k.view) _ _ c.take_first.new.level (last.set c.take_first.new.level) split.0 (step.1.0.took.frugal split.1)

pub returns-in-Item-clause-less : goal.returns-in-Item-clause-less
returns-in-Item-clause-less g c =
    let last = last_of c.args.levels.now.items (vec_len c.args.levels.now) c.in-Some.level.now (search rules) (let some = c.in-Some.ensures.variant in search (rules, some))
    c.in-Some.ensures.value in
    let step = rw c.in-Item.is at c.in_ok-take_first.ensures.step in
    (top_gave g.V.TrieView.valid g.V.TrieView.told g.V.P.Number.KeyBits.width (g.met.V.TrieView c.lifetimes (search rules)).laws c.args.levels.now.items _ _ c.in-Some.level.now c.take_first.new.level _ _ step.0 last.was (last.set c.take_first.new.level)
    c.requires.usable step.1.0 c.in_ok-take_first.ensures.usable c.in_ok-take_first.ensures.first c.in_ok-take_first.ensures.last).0.less

pub returns-in-Child-clause-usable : goal.returns-in-Child-clause-usable
returns-in-Child-clause-usable g c =
    let last = last_of c.args.levels.now.items (vec_len c.args.levels.now) c.in-Some.level.now (search rules) (let some = c.in-Some.ensures.variant in search (rules, some))
    c.in-Some.ensures.value in
    let step = rw c.in-Child.is at c.in_ok-take_first.ensures.step in
    (top_child g.V.TrieView.valid g.V.TrieView.told g.V.P.Number.KeyBits.width (g.met.V.TrieView c.lifetimes (search rules)).laws c.args.levels.now.items _ _ _ c.in-Some.level.now c.take_first.new.level (record { view = c.in-Child.view; spot = 1 }) step.0 last.was
    (last.set c.take_first.new.level) c.push_level.ensures.items c.requires.usable step.1 c.in_ok-take_first.ensures.usable c.in_ok-take_first.ensures.first c.in_ok-take_first.ensures.last refl).0.usable

pub returns-in-Child-clause-moved : goal.returns-in-Child-clause-moved
returns-in-Child-clause-moved g c =
    let last = last_of c.args.levels.now.items (vec_len c.args.levels.now) c.in-Some.level.now (search rules) (let some = c.in-Some.ensures.variant in search (rules, some))
    c.in-Some.ensures.value in
    let step = rw c.in-Child.is at c.in_ok-take_first.ensures.step in
    (top_child g.V.TrieView.valid g.V.TrieView.told g.V.P.Number.KeyBits.width (g.met.V.TrieView c.lifetimes (search rules)).laws c.args.levels.now.items _ _ _ c.in-Some.level.now c.take_first.new.level (record { view = c.in-Child.view; spot = 1 }) step.0 last.was
    (last.set c.take_first.new.level) c.push_level.ensures.items c.requires.usable step.1 c.in_ok-take_first.ensures.usable c.in_ok-take_first.ensures.first c.in_ok-take_first.ensures.last refl).1

pub returns-in-Child-clause-room : goal.returns-in-Child-clause-room
returns-in-Child-clause-room g c =
    let last = last_of c.args.levels.now.items (vec_len c.args.levels.now) c.in-Some.level.now (search rules) (let some = c.in-Some.ensures.variant in search (rules, some))
    c.in-Some.ensures.value in
    let below = below_top g.V.P.Number.KeyBits.width (λ k. g.V.TrieView.told k.view) c.args.levels.now.items _ c.in-Some.level.now (vec_capacity c.args.levels.now) _ last.was refl
    ((g.met.V.TrieView c.lifetimes (search rules)).laws _ (top_of _ _ _ _ _ _ c.in-Some.level.now last.was c.requires.usable).usable) c.requires.room in
    let step = rw c.in-Child.is at c.in_ok-take_first.ensures.step in
    room_down g.V.P.Number.KeyBits.width (λ k. g.V.TrieView.told k.view) _ _ _ c.in-Some.level.now c.take_first.new.level (record { view = c.in-Child.view; spot = 1 }) step.0 _ _ _ below (last.set c.take_first.new.level)
    c.push_level.ensures.items (omega arith) c.push_level.ensures.capacity step.1.took.place step.1.is.place

pub returns-in-Child-clause-stays : goal.returns-in-Child-clause-stays
returns-in-Child-clause-stays g c =
    let last = last_of c.args.levels.now.items (vec_len c.args.levels.now) c.in-Some.level.now (search rules) (let some = c.in-Some.ensures.variant in search (rules, some))
    c.in-Some.ensures.value in
    let step = rw c.in-Child.is at c.in_ok-take_first.ensures.step in
    λ all.
    let split = frugal_split (λ k. g.V.TrieView.told k.view) c.args.levels.now.items _ c.in-Some.level.now last.was all in
    frugal_push (λ k. g.V.TrieView.told k.view) _ _ (record { view = c.in-Child.view; spot = 1 }) c.push_level.ensures.items
    (frugal_push (λ k. g.V.TrieView.told k.view) _ _ c.take_first.new.level (last.set c.take_first.new.level) split.0 (step.1.took.frugal split.1)) (step.1.is.frugal split.1)

pub returns-in-Child-clause-less : goal.returns-in-Child-clause-less
returns-in-Child-clause-less g c =
    let last = last_of c.args.levels.now.items (vec_len c.args.levels.now) c.in-Some.level.now (search rules) (let some = c.in-Some.ensures.variant in search (rules, some))
    c.in-Some.ensures.value in
    let step = rw c.in-Child.is at c.in_ok-take_first.ensures.step in
    (top_child g.V.TrieView.valid g.V.TrieView.told g.V.P.Number.KeyBits.width (g.met.V.TrieView c.lifetimes (search rules)).laws c.args.levels.now.items _ _ _ c.in-Some.level.now c.take_first.new.level (record { view = c.in-Child.view; spot = 1 }) step.0 last.was
    (last.set c.take_first.new.level) c.push_level.ensures.items c.requires.usable step.1 c.in_ok-take_first.ensures.usable c.in_ok-take_first.ensures.first c.in_ok-take_first.ensures.last refl).0.less
