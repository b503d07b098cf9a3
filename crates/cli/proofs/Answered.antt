-- Words with a bad variant or a bad size are answered with that alone.
use Rattle.std.proofs.Common.{◌≡◌, ◌⊎◌, ◌↔◌, ◌∙◌, Bool, true, false, List, [], Option, Some, None, Result, Ok, Err, IfOk, IfErr, IsNone, IsSome, IsSomeAnd, inl, inr, refl, sym, subst, subst₂, codes, option_map, unwrap_or}
use Rattle.std.specs.Str.{bytes_eq}
use Rattle.std.proofs.lemmas.Bool.{false≢true}
use Rattle.clap.specs.Words.{Text, first_of, fault_of, subcommand_of, IsAmong}
use Rattle.clap.specs.Kinds.{Kinds}
use Rattle.clap.specs.declared.error.kind.ErrorKind.{ErrorKind}
use Rattle.crashlab.specs.declared.variants.variant.Variant.{Variant}
use Rattle.crashlab.specs.declared.variants.variant.Variant.TheVariants.{Right, NoLook, NoTies, Renumber, ExitOnCrash, CountUp, LastSkipped}
use Rattle.cli.specs.declared.arguments.args.Command.{Command}
use Rattle.cli.specs.declared.arguments.args.Cycles.{Cycles}
use Rattle.cli.specs.declared.arguments.args.HuntArgs.{HuntArgs}
use Rattle.cli.specs.declared.arguments.args.AlgorithmHuntArgs.{AlgorithmHuntArgs}
use Rattle.cli.specs.declared.arguments.args.CostArgs.{CostArgs}
use Rattle.cli.specs.declared.arguments.args.VariantCostArgs.{VariantCostArgs}
use Rattle.cli.specs.declared.arguments.args.MeanCostArgs.{MeanCostArgs}
use Rattle.cli.specs.declared.arguments.args.ExploreArgs.{ExploreArgs}
use Rattle.cli.specs.declared.arguments.args.AlgorithmExploreArgs.{AlgorithmExploreArgs}
use Rattle.cli.specs.declared.arguments.args.Command.TheVariants.{Replay, ReplayAlgorithm, Run, Hunt, HuntAlgorithm, Explore, ExploreAlgorithm, Cost, CostVariant, MeanCost, Export, States, StatesAlgorithm, Judge, Draw, DrawAlgorithm, Shrink, ShrinkAlgorithm, Step, StepAlgorithm, Explain}
use Rattle.cli.specs.declared.arguments.words.WordsFault.{WordsFault}
use Rattle.cli.specs.declared.arguments.words.WordsFault.TheVariants.{Help, Refused, BadVariant, BadSize, Unreadable, OutOfMemory}
use Rattle.cli.specs.CommandLine.{rmelab}
use Rattle.cli.specs.Given.{Given, AsksFor, AsksForNone, AsksForCycles, AsksForNoModel, word_of_cycles, word_of_variant}
use Rattle.cli.specs.ReadWords.{GoesWithImage, IsAlone, IsBadBesideImage, IsBesideAlgorithm, IsBadVariant, TakesImage, NeedsLock, HasBadVariant}
use Rattle.cli.specs.ReadWords.{IsHunt, IsAlgorithmHunt, IsBadHunt, IsBadAlgorithmHunt, IsExplore, IsAlgorithmExplore, AsksForCost, AsksForVariantCost, AsksForMeanCost, HasNoRounds, HasNoSearch, IsAlgorithmSearch, cost_rounds_of, cost_steps_of, IsBadSearch, IsBadAlgorithmSearch, IsBadCost, IsBadStarving, IsCostSearch}
use Rattle.cli.specs.ReadWords.{IsOutOfRange, HasBadSize, HasNoLock, HasBadWords, IsCommand, IsFault, IsFaultOfSearch, IsFaultOfStream, TakesWords, IsWordsRefusal}
use Rattle.cli.specs.Sizes.{IsInRanges, RunFits, IsHuntSize, AreHuntNumbers}
use Rattle.cli.proofs.Texts.{differ}

-- a command of another name
other_name : (a b name : Text) → name ≡ a → bytes_eq a b ≡ false → name ≡ b → ⊥
other_name a b name is other e = differ a b other (sym is ∙ e)

takes_no_image : (a name : Text) → name ≡ a → bytes_eq a (codes "replay") ≡ false → bytes_eq a (codes "draw") ≡ false → TakesImage name → ⊥
takes_no_image a name is replay draw (inl e) = other_name a (codes "replay") name is replay e
takes_no_image a name is replay draw (inr e) = other_name a (codes "draw") name is draw e

needs_none : (a name : Text) → name ≡ a → bytes_eq a (codes "hunt") ≡ false → bytes_eq a (codes "explore") ≡ false → bytes_eq a (codes "shrink") ≡ false
    → bytes_eq a (codes "states") ≡ false → bytes_eq a (codes "cost") ≡ false → NeedsLock name → ⊥
needs_none a name is hunt explore shrink states cost (inl e) = other_name a (codes "hunt") name is hunt e
needs_none a name is hunt explore shrink states cost (inr (inl e)) = other_name a (codes "explore") name is explore e
needs_none a name is hunt explore shrink states cost (inr (inr (inl e))) = other_name a (codes "shrink") name is shrink e
needs_none a name is hunt explore shrink states cost (inr (inr (inr (inl e)))) = other_name a (codes "states") name is states e
needs_none a name is hunt explore shrink states cost (inr (inr (inr (inr e)))) = other_name a (codes "cost") name is cost e

only_right : (variant : Variant) → word_of_variant variant ≡ codes "right" → variant ≡ Right
only_right Right e = refl
only_right NoLook e = absurd (differ (codes "no-look") (codes "right") refl e)
only_right NoTies e = absurd (differ (codes "no-ties") (codes "right") refl e)
only_right Renumber e = absurd (differ (codes "renumber") (codes "right") refl e)
only_right ExitOnCrash e = absurd (differ (codes "exit-on-crash") (codes "right") refl e)
only_right CountUp e = absurd (differ (codes "count-up") (codes "right") refl e)
only_right LastSkipped e = absurd (differ (codes "last-skipped") (codes "right") refl e)

goes : (given : Given) (variant : Variant) → GoesWithImage given variant → IsBadBesideImage given → ⊥
goes given variant h (inl none) = none variant h.0
goes given variant h (inr other) =
    other.2 (only_right other.0 (other.1 ∙ sym h.0 ∙ subst (λ (v : Variant). word_of_variant v ≡ codes "right") (sym (h.1 other.3)) refl))

no_both : {A : Type 0} (o : Option A) → IsNone o → IsSome o → ⊥
no_both None none some = false≢true some
no_both (Some x) none some = false≢true (sym none)

unasked : (o : Option Text) → IsNone o → codes "right" ≡ unwrap_or o (codes "right")
unasked None none = refl
unasked (Some x) none = absurd (false≢true (sym none))

-- beside an algorithm alone stands neither a variant nor an image
alone_goes : (given : Given) → IsAlone given → IsBadBesideImage given ⊎ IsBesideAlgorithm given → ⊥
alone_goes given h (inl (inl none)) = none Right (unasked (first_of (codes "variant") given) h.variant)
alone_goes given h (inl (inr other)) = no_both (first_of (codes "image") given) h.image other.3
alone_goes given h (inr beside) = beside.1 h

-- a variant that goes with the image, and no algorithm
variant_goes : (given : Given) (variant : Variant) → GoesWithImage given variant → IsNone (first_of (codes "algorithm") given)
    → IsBadBesideImage given ⊎ IsBesideAlgorithm given → ⊥
variant_goes given variant h none (inl bad) = goes given variant h bad
variant_goes given variant h none (inr beside) = no_both (first_of (codes "algorithm") given) none beside.0

-- a variant that there is, and no algorithm
variant_asked : (given : Given) (variant : Variant) → AsksFor [] given variant → IsNone (first_of (codes "algorithm") given) → IsBadVariant given → ⊥
variant_asked given variant h none (some, inl lacks) = lacks variant h
variant_asked given variant h none (some, inr both) = no_both (first_of (codes "algorithm") given) none both

neither : (a name : Text) (given : Given) → name ≡ a → bytes_eq a (codes "replay") ≡ false → bytes_eq a (codes "draw") ≡ false → bytes_eq a (codes "hunt") ≡ false
    → bytes_eq a (codes "explore") ≡ false → bytes_eq a (codes "shrink") ≡ false → bytes_eq a (codes "states") ≡ false → bytes_eq a (codes "cost") ≡ false
    → HasBadVariant name given → ⊥
neither a name given is replay draw hunt explore shrink states cost (inl bad) = takes_no_image a name is replay draw bad.0
neither a name given is replay draw hunt explore shrink states cost (inr bad) = needs_none a name is hunt explore shrink states cost bad.0

good_variant : (name : Text) (given : Given) (command : Command) → IsCommand name given command → HasBadVariant name given → ⊥
good_variant name given (Replay args) h (inl bad) = variant_goes given args.variant h.1.variant h.1.no_algorithm bad.1
good_variant name given (Replay args) h (inr bad) = needs_none (codes "replay") name h.0 refl refl refl refl refl bad.0
good_variant name given (ReplayAlgorithm args) h (inl bad) = alone_goes given h.1.alone bad.1
good_variant name given (ReplayAlgorithm args) h (inr bad) = needs_none (codes "replay") name h.0 refl refl refl refl refl bad.0
good_variant name given (Draw args) h (inl bad) = variant_goes given args.variant h.1.variant h.1.no_algorithm bad.1
good_variant name given (Draw args) h (inr bad) = needs_none (codes "draw") name h.0 refl refl refl refl refl bad.0
good_variant name given (DrawAlgorithm args) h (inl bad) = alone_goes given h.1.alone bad.1
good_variant name given (DrawAlgorithm args) h (inr bad) = needs_none (codes "draw") name h.0 refl refl refl refl refl bad.0
good_variant name given (Hunt args) h (inl bad) = takes_no_image (codes "hunt") name h.0 refl refl bad.0
good_variant name given (Hunt args) h (inr bad) = variant_asked given args.variant h.1.variant h.1.no_algorithm bad.1
good_variant name given (HuntAlgorithm args) h (inl bad) = takes_no_image (codes "hunt") name h.0 refl refl bad.0
good_variant name given (HuntAlgorithm args) h (inr bad) = no_both (first_of (codes "variant") given) h.1.no_variant bad.1.0
good_variant name given (Explore args) h (inl bad) = takes_no_image (codes "explore") name h.0 refl refl bad.0
good_variant name given (Explore args) h (inr bad) = variant_asked given args.variant h.1.variant h.1.no_algorithm bad.1
good_variant name given (ExploreAlgorithm args) h (inl bad) = takes_no_image (codes "explore") name h.0 refl refl bad.0
good_variant name given (ExploreAlgorithm args) h (inr bad) = no_both (first_of (codes "variant") given) h.1.no_variant bad.1.0
good_variant name given (Shrink args) h (inl bad) = takes_no_image (codes "shrink") name h.0 refl refl bad.0
good_variant name given (Shrink args) h (inr bad) = variant_asked given args.variant h.1.variant h.1.no_algorithm bad.1
good_variant name given (ShrinkAlgorithm args) h (inl bad) = takes_no_image (codes "shrink") name h.0 refl refl bad.0
good_variant name given (ShrinkAlgorithm args) h (inr bad) = no_both (first_of (codes "variant") given) h.1.no_variant bad.1.0
good_variant name given (States args) h (inl bad) = takes_no_image (codes "states") name h.0 refl refl bad.0
good_variant name given (States args) h (inr bad) = variant_asked given args.search.variant h.1.search.variant h.1.search.no_algorithm bad.1
good_variant name given (StatesAlgorithm args) h (inl bad) = takes_no_image (codes "states") name h.0 refl refl bad.0
good_variant name given (StatesAlgorithm args) h (inr bad) = no_both (first_of (codes "variant") given) h.1.search.no_variant bad.1.0
good_variant name given (Cost args) h (inl bad) = takes_no_image (codes "cost") name h.0 refl refl bad.0
good_variant name given (Cost args) h (inr bad) = no_both (first_of (codes "variant") given) h.1.search.no_variant bad.1.0
good_variant name given (CostVariant args) h (inl bad) = takes_no_image (codes "cost") name h.0 refl refl bad.0
good_variant name given (CostVariant args) h (inr bad) = variant_asked given args.search.variant h.1.search.variant h.1.search.no_algorithm bad.1
good_variant name given (MeanCost args) h (inl bad) = takes_no_image (codes "cost") name h.0 refl refl bad.0
good_variant name given (MeanCost args) h (inr bad) = no_both (first_of (codes "variant") given) h.1.no_variant bad.1.0
good_variant name given (Export args) h bad = neither (codes "export") name given h.0 refl refl refl refl refl refl refl bad
good_variant name given (Run args) h bad = neither (codes "run") name given h.0 refl refl refl refl refl refl refl bad
good_variant name given (Judge file) h bad = neither (codes "judge") name given h.0 refl refl refl refl refl refl refl bad
good_variant name given (Step file) h bad = neither (codes "step") name given h.0 refl refl refl refl refl refl refl bad
good_variant name given (StepAlgorithm args) h bad = neither (codes "step") name given h.0 refl refl refl refl refl refl refl bad
good_variant name given (Explain entry) h bad = neither (codes "explain") name given h.0 refl refl refl refl refl refl refl bad

sizeless : (a name : Text) (given : Given) → name ≡ a → bytes_eq a (codes "run") ≡ false → bytes_eq a (codes "hunt") ≡ false → bytes_eq a (codes "explore") ≡ false
    → bytes_eq a (codes "states") ≡ false → bytes_eq a (codes "cost") ≡ false → IsOutOfRange name given → ⊥
sizeless a name given is run hunt explore states cost (inl bad) = other_name a (codes "run") name is run bad.0
sizeless a name given is run hunt explore states cost (inr (inl bad)) = other_name a (codes "hunt") name is hunt bad.0
sizeless a name given is run hunt explore states cost (inr (inr (inl bad))) = other_name a (codes "explore") name is explore bad.0
sizeless a name given is run hunt explore states cost (inr (inr (inr (inl bad)))) = other_name a (codes "states") name is states bad.0
sizeless a name given is run hunt explore states cost (inr (inr (inr (inr bad)))) = other_name a (codes "cost") name is cost bad.0

good_hunt : (given : Given) (args : HuntArgs) → IsHunt given args → AreHuntNumbers args.rounds args.moves → IsBadHunt given ⊎ IsBadAlgorithmHunt given → ⊥
good_hunt given args h sized (inl (some, inl size)) = size (subst₂ AreHuntNumbers h.rounds h.moves sized)
good_hunt given args h sized (inl (some, inr (inl procs))) = no_both (first_of (codes "procs") given) h.no_procs procs
good_hunt given args h sized (inl (some, inr (inr limit))) = no_both (first_of (codes "limit") given) h.no_limit limit
good_hunt given args h sized (inr bad) = no_both (first_of (codes "algorithm") given) h.no_algorithm bad.0

good_algorithm_hunt : (given : Given) (args : AlgorithmHuntArgs) → IsAlgorithmHunt given args → AreHuntNumbers args.rounds args.moves
    → IsBadHunt given ⊎ IsBadAlgorithmHunt given → ⊥
good_algorithm_hunt given args h sized (inl bad) = no_both (first_of (codes "variant") given) h.no_variant bad.0
good_algorithm_hunt given args h sized (inr bad) = bad.1 (subst₂ AreHuntNumbers h.rounds h.moves sized)

-- cycles that are asked for are given
asked_cycles : (cycles : Option Cycles) (name : Option Text) → option_map word_of_cycles cycles ≡ name → IsSome name → IsSome cycles
asked_cycles (Some cycles) name same some = refl
asked_cycles None name same some = subst (λ (o : Option Text). IsSome o) (sym same) some

-- a search without a bound on moves, in cycles that there are
good_cycles : (given : Given) (cycles : Option Cycles) → AsksForCycles given cycles → (IsSome cycles → IsNone (first_of (codes "moves") given))
    → IsBadStarving given → ⊥
good_cycles given cycles asked unbounded (inl none) = none cycles asked
good_cycles given cycles asked unbounded (inr both) =
    no_both (first_of (codes "moves") given) (unbounded (asked_cycles cycles (first_of (codes "starving") given) asked both.0)) both.1

good_search : (given : Given) (args : ExploreArgs) → IsExplore given args → IsBadSearch given ⊎ IsBadAlgorithmSearch given → ⊥
good_search given args h (inl (some, inl calls)) = false≢true (sym calls ∙ h.known)
good_search given args h (inl (some, inr (inl stuck))) = no_both (first_of (codes "moves") given) (h.unbounded (h.stuck ∙ stuck.0)) stuck.1
good_search given args h (inl (some, inr (inr starving))) = good_cycles given args.starving h.starving h.no_bound starving
good_search given args h (inr bad) = no_both (first_of (codes "algorithm") given) h.no_algorithm bad.0.algorithm

good_algorithm_search : (given : Given) (args : AlgorithmExploreArgs) → IsAlgorithmExplore given args → IsBadSearch given ⊎ IsBadAlgorithmSearch given → ⊥
good_algorithm_search given args h (inl bad) = no_both (first_of (codes "variant") given) h.no_variant bad.0
good_algorithm_search given args h (inr (of_algorithm, inl bad)) = false≢true (sym bad ∙ h.known)
good_algorithm_search given args h (inr (of_algorithm, inr (inl stuck))) = no_both (first_of (codes "moves") given) (h.unbounded (h.stuck ∙ stuck.0)) stuck.1
good_algorithm_search given args h (inr (of_algorithm, inr (inr starving))) = good_cycles given args.starving h.starving h.no_bound starving

-- a variant that is asked for is given
none_asked : (variant : Variant) (o : Option Text) → word_of_variant variant ≡ unwrap_or o [] → IsNone o → ⊥
none_asked variant (Some text) asked none = false≢true (sym none)
none_asked Right None asked none = differ (codes "right") [] refl asked
none_asked NoLook None asked none = differ (codes "no-look") [] refl asked
none_asked NoTies None asked none = differ (codes "no-ties") [] refl asked
none_asked Renumber None asked none = differ (codes "renumber") [] refl asked
none_asked ExitOnCrash None asked none = differ (codes "exit-on-crash") [] refl asked
none_asked CountUp None asked none = differ (codes "count-up") [] refl asked
none_asked LastSkipped None asked none = differ (codes "last-skipped") [] refl asked

-- the greatest cost and the mean
both_asked : (given : Given) → HasNoRounds given → HasNoSearch given → ⊥
both_asked given no_rounds no_search = false≢true (sym no_rounds.no_mean ∙ no_search.mean)

good_cost : (given : Given) (args : CostArgs) → AsksForCost given args → IsBadCost given → ⊥
good_cost given args h (inl (is, inl lacks)) = lacks args.model h.model
good_cost given args h (inl (is, inr (inl bad))) = good_algorithm_search given args.search h.search (inr bad.1)
good_cost given args h (inl (is, inr (inr bad))) = both_asked given h.options bad.0
good_cost given args h (inr bad) = no_both (first_of (codes "variant") given) h.search.no_variant bad.1

good_variant_cost : (given : Given) (args : VariantCostArgs) → AsksForVariantCost given args → IsBadCost given → ⊥
good_variant_cost given args h (inl bad) = none_asked args.search.variant (first_of (codes "variant") given) h.search.variant bad.0.no_variant
good_variant_cost given args h (inr (options, some, inl lacks)) = lacks args.model h.model
good_variant_cost given args h (inr (options, some, inr bad)) = good_search given args.search h.search (inl bad)

good_mean_cost : (given : Given) (args : MeanCostArgs) → AsksForMeanCost given args → IsHuntSize args.rounds args.steps → IsBadCost given → ⊥
good_mean_cost given args h sized (inl (is, inl lacks)) = lacks args.model h.model
good_mean_cost given args h sized (inl (is, inr (inl bad))) = both_asked given bad.0 h.options
good_mean_cost given args h sized (inl (is, inr (inr bad))) = bad.1 (subst₂ IsHuntSize h.rounds h.steps sized)
good_mean_cost given args h sized (inr bad) = no_both (first_of (codes "variant") given) h.no_variant bad.1

good_size : (name : Text) (given : Given) (command : Command) → IsInRanges command → IsCommand name given command → IsOutOfRange name given → ⊥
good_size name given (Run args) sized h (inl bad) = bad.1 (subst RunFits h.1 sized)
good_size name given (Run args) sized h (inr (inl bad)) = other_name (codes "run") (codes "hunt") name h.0 refl bad.0
good_size name given (Run args) sized h (inr (inr (inl bad))) = other_name (codes "run") (codes "explore") name h.0 refl bad.0
good_size name given (Run args) sized h (inr (inr (inr (inl bad)))) = other_name (codes "run") (codes "states") name h.0 refl bad.0
good_size name given (Run args) sized h (inr (inr (inr (inr bad)))) = other_name (codes "run") (codes "cost") name h.0 refl bad.0
good_size name given (Hunt args) sized h (inl bad) = other_name (codes "hunt") (codes "run") name h.0 refl bad.0
good_size name given (Hunt args) sized h (inr (inl bad)) = good_hunt given args h.1 sized bad.1
good_size name given (Hunt args) sized h (inr (inr (inl bad))) = other_name (codes "hunt") (codes "explore") name h.0 refl bad.0
good_size name given (Hunt args) sized h (inr (inr (inr (inl bad)))) = other_name (codes "hunt") (codes "states") name h.0 refl bad.0
good_size name given (Hunt args) sized h (inr (inr (inr (inr bad)))) = other_name (codes "hunt") (codes "cost") name h.0 refl bad.0
good_size name given (HuntAlgorithm args) sized h (inl bad) = other_name (codes "hunt") (codes "run") name h.0 refl bad.0
good_size name given (HuntAlgorithm args) sized h (inr (inl bad)) = good_algorithm_hunt given args h.1 sized bad.1
good_size name given (HuntAlgorithm args) sized h (inr (inr (inl bad))) = other_name (codes "hunt") (codes "explore") name h.0 refl bad.0
good_size name given (HuntAlgorithm args) sized h (inr (inr (inr (inl bad)))) = other_name (codes "hunt") (codes "states") name h.0 refl bad.0
good_size name given (HuntAlgorithm args) sized h (inr (inr (inr (inr bad)))) = other_name (codes "hunt") (codes "cost") name h.0 refl bad.0
good_size name given (Explore args) sized h (inl bad) = other_name (codes "explore") (codes "run") name h.0 refl bad.0
good_size name given (Explore args) sized h (inr (inl bad)) = other_name (codes "explore") (codes "hunt") name h.0 refl bad.0
good_size name given (Explore args) sized h (inr (inr (inl bad))) = good_search given args h.1 bad.1
good_size name given (Explore args) sized h (inr (inr (inr (inl bad)))) = other_name (codes "explore") (codes "states") name h.0 refl bad.0
good_size name given (Explore args) sized h (inr (inr (inr (inr bad)))) = other_name (codes "explore") (codes "cost") name h.0 refl bad.0
good_size name given (ExploreAlgorithm args) sized h (inl bad) = other_name (codes "explore") (codes "run") name h.0 refl bad.0
good_size name given (ExploreAlgorithm args) sized h (inr (inl bad)) = other_name (codes "explore") (codes "hunt") name h.0 refl bad.0
good_size name given (ExploreAlgorithm args) sized h (inr (inr (inl bad))) = good_algorithm_search given args h.1 bad.1
good_size name given (ExploreAlgorithm args) sized h (inr (inr (inr (inl bad)))) = other_name (codes "explore") (codes "states") name h.0 refl bad.0
good_size name given (ExploreAlgorithm args) sized h (inr (inr (inr (inr bad)))) = other_name (codes "explore") (codes "cost") name h.0 refl bad.0
good_size name given (States args) sized h (inl bad) = other_name (codes "states") (codes "run") name h.0 refl bad.0
good_size name given (States args) sized h (inr (inl bad)) = other_name (codes "states") (codes "hunt") name h.0 refl bad.0
good_size name given (States args) sized h (inr (inr (inl bad))) = other_name (codes "states") (codes "explore") name h.0 refl bad.0
good_size name given (States args) sized h (inr (inr (inr (inl (is, inl bad))))) = good_search given args.search h.1.search bad
good_size name given (States args) sized h (inr (inr (inr (inl (is, inr bad))))) = bad.1 args.stream.tool h.1.stream.tool
good_size name given (States args) sized h (inr (inr (inr (inr bad)))) = other_name (codes "states") (codes "cost") name h.0 refl bad.0
good_size name given (StatesAlgorithm args) sized h (inl bad) = other_name (codes "states") (codes "run") name h.0 refl bad.0
good_size name given (StatesAlgorithm args) sized h (inr (inl bad)) = other_name (codes "states") (codes "hunt") name h.0 refl bad.0
good_size name given (StatesAlgorithm args) sized h (inr (inr (inl bad))) = other_name (codes "states") (codes "explore") name h.0 refl bad.0
good_size name given (StatesAlgorithm args) sized h (inr (inr (inr (inl (is, inl bad))))) = good_algorithm_search given args.search h.1.search bad
good_size name given (StatesAlgorithm args) sized h (inr (inr (inr (inl (is, inr bad))))) = bad.1 args.stream.tool h.1.stream.tool
good_size name given (StatesAlgorithm args) sized h (inr (inr (inr (inr bad)))) = other_name (codes "states") (codes "cost") name h.0 refl bad.0
good_size name given (Cost args) sized h (inl bad) = other_name (codes "cost") (codes "run") name h.0 refl bad.0
good_size name given (Cost args) sized h (inr (inl bad)) = other_name (codes "cost") (codes "hunt") name h.0 refl bad.0
good_size name given (Cost args) sized h (inr (inr (inl bad))) = other_name (codes "cost") (codes "explore") name h.0 refl bad.0
good_size name given (Cost args) sized h (inr (inr (inr (inl bad)))) = other_name (codes "cost") (codes "states") name h.0 refl bad.0
good_size name given (Cost args) sized h (inr (inr (inr (inr bad)))) = good_cost given args h.1 bad.1
good_size name given (CostVariant args) sized h (inl bad) = other_name (codes "cost") (codes "run") name h.0 refl bad.0
good_size name given (CostVariant args) sized h (inr (inl bad)) = other_name (codes "cost") (codes "hunt") name h.0 refl bad.0
good_size name given (CostVariant args) sized h (inr (inr (inl bad))) = other_name (codes "cost") (codes "explore") name h.0 refl bad.0
good_size name given (CostVariant args) sized h (inr (inr (inr (inl bad)))) = other_name (codes "cost") (codes "states") name h.0 refl bad.0
good_size name given (CostVariant args) sized h (inr (inr (inr (inr bad)))) = good_variant_cost given args h.1 bad.1
good_size name given (MeanCost args) sized h (inl bad) = other_name (codes "cost") (codes "run") name h.0 refl bad.0
good_size name given (MeanCost args) sized h (inr (inl bad)) = other_name (codes "cost") (codes "hunt") name h.0 refl bad.0
good_size name given (MeanCost args) sized h (inr (inr (inl bad))) = other_name (codes "cost") (codes "explore") name h.0 refl bad.0
good_size name given (MeanCost args) sized h (inr (inr (inr (inl bad)))) = other_name (codes "cost") (codes "states") name h.0 refl bad.0
good_size name given (MeanCost args) sized h (inr (inr (inr (inr bad)))) = good_mean_cost given args h.1 sized bad.1
good_size name given (Export args) sized h bad = sizeless (codes "export") name given h.0 refl refl refl refl refl bad
good_size name given (Replay args) sized h bad = sizeless (codes "replay") name given h.0 refl refl refl refl refl bad
good_size name given (ReplayAlgorithm args) sized h bad = sizeless (codes "replay") name given h.0 refl refl refl refl refl bad
good_size name given (Judge file) sized h bad = sizeless (codes "judge") name given h.0 refl refl refl refl refl bad
good_size name given (Draw args) sized h bad = sizeless (codes "draw") name given h.0 refl refl refl refl refl bad
good_size name given (DrawAlgorithm args) sized h bad = sizeless (codes "draw") name given h.0 refl refl refl refl refl bad
good_size name given (Shrink args) sized h bad = sizeless (codes "shrink") name given h.0 refl refl refl refl refl bad
good_size name given (ShrinkAlgorithm args) sized h bad = sizeless (codes "shrink") name given h.0 refl refl refl refl refl bad
good_size name given (Step file) sized h bad = sizeless (codes "step") name given h.0 refl refl refl refl refl bad
good_size name given (StepAlgorithm args) sized h bad = sizeless (codes "step") name given h.0 refl refl refl refl refl bad
good_size name given (Explain entry) sized h bad = sizeless (codes "explain") name given h.0 refl refl refl refl refl bad

-- ---- the words

not_drawn : (name : Text) (given : Given) → HasNoLock name given → TakesImage name → ⊥
not_drawn name given (none, inl (is, lacks)) takes = takes_no_image (codes "explore") name is refl refl takes
not_drawn name given (none, inr (inl (is, lacks))) takes = takes_no_image (codes "hunt") name is refl refl takes
not_drawn name given (none, inr (inr (inl (is, lacks)))) takes = takes_no_image (codes "shrink") name is refl refl takes
not_drawn name given (none, inr (inr (inr (is, lacks)))) takes = takes_no_image (codes "states") name is refl refl takes

worded : (name : Text) (given : Given) → HasBadWords name given → HasBadVariant name given → ⊥
worded name given (inl entry) bad = neither (codes "explain") name given entry.0 refl refl refl refl refl refl refl bad
worded name given (inr (inl lock)) (inl bad) = not_drawn name given lock bad.0
worded name given (inr (inl lock)) (inr bad) = no_both (first_of (codes "variant") given) lock.0 bad.1.0
worded name given (inr (inr (inl lacks))) (inl bad) = takes_no_image (codes "cost") name lacks.0 refl refl bad.0
worded name given (inr (inr (inl (is, inl lacks)))) (inr bad) = no_both (first_of (codes "variant") given) lacks.0 bad.1.0
worded name given (inr (inr (inl (is, inr lacks)))) (inr bad) = lacks.1 bad.1
worded name given (inr (inr (inr lacks))) bad = neither (codes "export") name given lacks.0 refl refl refl refl refl refl refl bad

without_range : (name : Text) (given : Given) → HasNoLock name given → IsOutOfRange name given → ⊥
without_range name given (none, inl (is, lacks)) (inl bad) = other_name (codes "explore") (codes "run") name is refl bad.0
without_range name given (none, inl (is, lacks)) (inr (inl bad)) = other_name (codes "explore") (codes "hunt") name is refl bad.0
without_range name given (none, inl (is, lacks)) (inr (inr (inl (too, inl bad)))) = no_both (first_of (codes "variant") given) none bad.0
without_range name given (none, inl (is, lacks)) (inr (inr (inl (too, inr bad)))) = lacks bad.0
without_range name given (none, inl (is, lacks)) (inr (inr (inr (inl bad)))) = other_name (codes "explore") (codes "states") name is refl bad.0
without_range name given (none, inl (is, lacks)) (inr (inr (inr (inr bad)))) = other_name (codes "explore") (codes "cost") name is refl bad.0
without_range name given (none, inr (inl (is, lacks))) (inl bad) = other_name (codes "hunt") (codes "run") name is refl bad.0
without_range name given (none, inr (inl (is, lacks))) (inr (inl (too, inl bad))) = no_both (first_of (codes "variant") given) none bad.0
without_range name given (none, inr (inl (is, lacks))) (inr (inl (too, inr bad))) = no_both (first_of (codes "algorithm") given) lacks bad.0
without_range name given (none, inr (inl (is, lacks))) (inr (inr (inl bad))) = other_name (codes "hunt") (codes "explore") name is refl bad.0
without_range name given (none, inr (inl (is, lacks))) (inr (inr (inr (inl bad)))) = other_name (codes "hunt") (codes "states") name is refl bad.0
without_range name given (none, inr (inl (is, lacks))) (inr (inr (inr (inr bad)))) = other_name (codes "hunt") (codes "cost") name is refl bad.0
without_range name given (none, inr (inr (inl (is, lacks)))) bad = sizeless (codes "shrink") name given is refl refl refl refl refl bad
without_range name given (none, inr (inr (inr (is, lacks)))) (inl bad) = other_name (codes "states") (codes "run") name is refl bad.0
without_range name given (none, inr (inr (inr (is, lacks)))) (inr (inl bad)) = other_name (codes "states") (codes "hunt") name is refl bad.0
without_range name given (none, inr (inr (inr (is, lacks)))) (inr (inr (inl bad))) = other_name (codes "states") (codes "explore") name is refl bad.0
without_range name given (none, inr (inr (inr (is, lacks)))) (inr (inr (inr (inl (too, inl (inl bad)))))) = no_both (first_of (codes "variant") given) none bad.0
without_range name given (none, inr (inr (inr (is, lacks)))) (inr (inr (inr (inl (too, inl (inr bad)))))) = lacks bad.0
without_range name given (none, inr (inr (inr (is, lacks)))) (inr (inr (inr (inl (too, inr bad))))) = lacks (bad.0 none)
without_range name given (none, inr (inr (inr (is, lacks)))) (inr (inr (inr (inr bad)))) = other_name (codes "states") (codes "cost") name is refl bad.0

-- costs that are asked for with an option that there is not, or of nothing
unasked_costs : (given : Given) → (IsNone (first_of (codes "variant") given) × (IsCostSearch given → ⊥)) ⊎ (IsSome (first_of (codes "variant") given) × (IsBadVariant given → ⊥) × (HasNoRounds given → ⊥)) → IsBadCost given → ⊥
unasked_costs given (inl (none, lacks)) (inl bad) = lacks bad.0
unasked_costs given (inl (none, lacks)) (inr bad) = no_both (first_of (codes "variant") given) none bad.1
unasked_costs given (inr (some, good, lacks)) (inl bad) = no_both (first_of (codes "variant") given) bad.0.no_variant some
unasked_costs given (inr (some, good, lacks)) (inr bad) = lacks bad.0

ranged : (name : Text) (given : Given) → HasBadWords name given → IsOutOfRange name given → ⊥
ranged name given (inl entry) bad = sizeless (codes "explain") name given entry.0 refl refl refl refl refl bad
ranged name given (inr (inl lock)) bad = without_range name given lock bad
ranged name given (inr (inr (inl lacks))) (inl bad) = other_name (codes "cost") (codes "run") name lacks.0 refl bad.0
ranged name given (inr (inr (inl lacks))) (inr (inl bad)) = other_name (codes "cost") (codes "hunt") name lacks.0 refl bad.0
ranged name given (inr (inr (inl lacks))) (inr (inr (inl bad))) = other_name (codes "cost") (codes "explore") name lacks.0 refl bad.0
ranged name given (inr (inr (inl lacks))) (inr (inr (inr (inl bad)))) = other_name (codes "cost") (codes "states") name lacks.0 refl bad.0
ranged name given (inr (inr (inl lacks))) (inr (inr (inr (inr bad)))) = unasked_costs given lacks.1 bad.1
ranged name given (inr (inr (inr lacks))) bad = sizeless (codes "export") name given lacks.0 refl refl refl refl refl bad

both_of : (words : List Text) (P Q : Text → Given → Type 0) → TakesWords words P → TakesWords words Q → (name : Text) × (given : Given) × P name given × Q name given
both_of words P Q p q = go (subcommand_of rmelab words) p.1 q.1
  where
    go : (o : Option (Text × Given)) → IsSomeAnd o (λ command. P command.0 command.1) → IsSomeAnd o (λ command. Q command.0 command.1)
        → (name : Text) × (given : Given) × P name given × Q name given
    go None p q = absurd p
    go (Some command) p q = (command.0, command.1, p, q)

no_kind : (kinds : Kinds) (kind : ErrorKind) → kinds ≡ [] → IsAmong kind kinds → ⊥
no_kind kinds kind none among = subst (λ (ks : Kinds). IsAmong kind ks) none among

pub variant_refused : (words : List Text) (result : Result Command WordsFault) → TakesWords words HasBadVariant
    → IfOk result (λ command. TakesWords words (λ name given. IsCommand name given command)) → IfErr result (IsWordsRefusal words)
    → (result ≡ Err BadVariant) ⊎ (result ≡ Err OutOfMemory)
variant_refused words (Ok command) bad ok err =
    let h = both_of words HasBadVariant (λ name given. IsCommand name given command) bad ok in absurd (good_variant h.0 h.1 command h.3 h.2)
variant_refused words (Err (Help text)) bad ok err = absurd (no_kind (fault_of rmelab words) err.0 bad.0 err.1)
variant_refused words (Err (Refused text)) bad ok (inl refused) =
    let h = both_of words HasBadVariant HasBadWords bad refused in absurd (worded h.0 h.1 h.3 h.2)
variant_refused words (Err (Refused text)) bad ok (inr mistaken) = absurd (no_kind (fault_of rmelab words) mistaken.0 bad.0 mistaken.1)
variant_refused words (Err BadVariant) bad ok err = inl refl
variant_refused words (Err BadSize) bad ok err =
    let h = both_of words HasBadVariant HasBadSize bad err in absurd (h.3.0 h.2)
variant_refused words (Err Unreadable) bad ok err = absurd err
variant_refused words (Err OutOfMemory) bad ok err = inr refl

pub size_refused : (words : List Text) (result : Result Command WordsFault) → TakesWords words HasBadSize
    → IfOk result IsInRanges → IfOk result (λ command. TakesWords words (λ name given. IsCommand name given command)) → IfErr result (IsWordsRefusal words)
    → (result ≡ Err BadSize) ⊎ (result ≡ Err OutOfMemory)
size_refused words (Ok command) bad sized ok err =
    let h = both_of words HasBadSize (λ name given. IsCommand name given command) bad ok in
    absurd (good_size h.0 h.1 command sized h.3 h.2.1)
size_refused words (Err (Help text)) bad sized ok err = absurd (no_kind (fault_of rmelab words) err.0 bad.0 err.1)
size_refused words (Err (Refused text)) bad sized ok (inl refused) =
    let h = both_of words HasBadSize HasBadWords bad refused in absurd (ranged h.0 h.1 h.3 h.2.1)
size_refused words (Err (Refused text)) bad sized ok (inr mistaken) = absurd (no_kind (fault_of rmelab words) mistaken.0 bad.0 mistaken.1)
size_refused words (Err BadVariant) bad sized ok err =
    let h = both_of words HasBadSize HasBadVariant bad err in absurd (h.2.0 h.3)
size_refused words (Err BadSize) bad sized ok err = inl refl
size_refused words (Err Unreadable) bad sized ok err = absurd err
size_refused words (Err OutOfMemory) bad sized ok err = inr refl

-- ---- the search of a command

-- no variant is bad where a search is
no_image_of : (a : Text) (given : Given) → bytes_eq a (codes "replay") ≡ false → bytes_eq a (codes "draw") ≡ false → (IsBadVariant given → ⊥) → HasBadVariant a given → ⊥
no_image_of a given replay draw good (inl bad) = takes_no_image a a refl replay draw bad.0
no_image_of a given replay draw good (inr bad) = good bad.1

pub explore_refused : (given : Given) (fault : WordsFault) → IsFaultOfSearch given fault → IsFault (codes "explore") given fault
explore_refused given (Help text) h = absurd h
explore_refused given (Refused text) h = inr (inl (h.0, inl (refl, h.1)))
explore_refused given BadVariant h = inr (inr (inl refl), h)
explore_refused given BadSize h = (no_image_of (codes "explore") given refl refl h.0, inr (inr (inl (refl, h.1))))
explore_refused given Unreadable h = absurd h
explore_refused given OutOfMemory h = tt

pub states_refused : (given : Given) (fault : WordsFault) → IsFaultOfSearch given fault → IsFault (codes "states") given fault
states_refused given (Help text) h = absurd h
states_refused given (Refused text) h = inr (inl (h.0, inr (inr (inr (refl, h.1)))))
states_refused given BadVariant h = inr (inr (inr (inr (inl refl))), h)
states_refused given BadSize h = (no_image_of (codes "states") given refl refl h.0, inr (inr (inr (inl (refl, inl h.1)))))
states_refused given Unreadable h = absurd h
states_refused given OutOfMemory h = tt

-- ---- the tool of `states`

pub stream_refused : (given : Given) (args : ExploreArgs) (fault : WordsFault) → IsExplore given args → IsFaultOfStream given fault
    → IsFault (codes "states") given fault
stream_refused given args BadSize h tool = (
  no_image_of (codes "states") given refl refl (variant_asked given args.variant h.variant h.no_algorithm),
  inr (inr (inr (inl (refl, inr ((λ none. absurd (none_asked args.variant (first_of (codes "variant") given) h.variant none)), tool))))),
)
stream_refused given args OutOfMemory h tool = tt
stream_refused given args (Help text) h tool = cc
stream_refused given args (Refused text) h tool = cc
stream_refused given args BadVariant h tool = cc
stream_refused given args Unreadable h tool = cc

pub algorithm_stream_refused : (given : Given) (args : AlgorithmExploreArgs) (fault : WordsFault) → IsAlgorithmExplore given args → IsFaultOfStream given fault
    → IsFault (codes "states") given fault
algorithm_stream_refused given args BadSize h tool = (
  no_image_of (codes "states") given refl refl (λ bad. no_both (first_of (codes "variant") given) h.no_variant bad.0),
  inr (inr (inr (inl (refl, inr ((λ none. h.search), tool))))),
)
algorithm_stream_refused given args OutOfMemory h tool = tt
algorithm_stream_refused given args (Help text) h tool = cc
algorithm_stream_refused given args (Refused text) h tool = cc
algorithm_stream_refused given args BadVariant h tool = cc
algorithm_stream_refused given args Unreadable h tool = cc

-- ---- the search of `cost`

no_bad_variant : (given : Given) → IsNone (first_of (codes "variant") given) → HasBadVariant (codes "cost") given → ⊥
no_bad_variant given none bad = no_image_of (codes "cost") given refl refl (λ is. no_both (first_of (codes "variant") given) none is.0) bad

bad_algorithm : (given : Given) → IsNone (first_of (codes "variant") given) → IsBadSearch given ⊎ IsBadAlgorithmSearch given → IsBadAlgorithmSearch given
bad_algorithm given none (inl bad) = absurd (no_both (first_of (codes "variant") given) none bad.0)
bad_algorithm given none (inr bad) = bad

-- the search of the greatest cost
searched : (given : Given) → HasNoRounds given → (IsAlgorithmSearch given × HasNoRounds given) ⊎ HasNoSearch given → IsAlgorithmSearch given
searched given no_rounds (inl is) = is.0
searched given no_rounds (inr is) = absurd (both_asked given no_rounds is)

pub cost_refused : (given : Given) (fault : WordsFault) → IsNone (first_of (codes "variant") given) → HasNoRounds given → IsFaultOfSearch given fault
    → IsFault (codes "cost") given fault
cost_refused given (Help text) none no_rounds h = absurd h
cost_refused given (Refused text) none no_rounds h = inr (inr (inl (refl, inl (none, λ is. h.1 (searched given no_rounds is.options)))))
cost_refused given BadVariant none no_rounds h = absurd (no_both (first_of (codes "variant") given) none h.0)
cost_refused given BadSize none no_rounds h =
    let bad = bad_algorithm given none h.1 in
    (no_bad_variant given none, inr (inr (inr (inr (refl, inl (record { algorithm = bad.0.algorithm; no_variant = none; options = inl (bad.0, no_rounds) }, inr (inl (no_rounds, bad))))))))
cost_refused given Unreadable none no_rounds h = absurd h
cost_refused given OutOfMemory none no_rounds h = tt

pub model_refused : (given : Given) (args : AlgorithmExploreArgs) → IsAlgorithmExplore given args → HasNoRounds given → AsksForNoModel given
    → IsFault (codes "cost") given BadSize
model_refused given args h no_rounds lacks =
    (no_bad_variant given h.no_variant, inr (inr (inr (inr (refl, inl (record { algorithm = h.search.algorithm; no_variant = h.no_variant; options = inl (h.search, no_rounds) }, inl lacks))))))

-- the text that is given
some_given : (text : Text) (o : Option Text) → Some text ≡ o → IsSome o
some_given text o is = subst (λ (x : Option Text). IsSome x) is refl

pub mean_refused : (given : Given) (text : Text) → Some text ≡ first_of (codes "algorithm") given → IsNone (first_of (codes "variant") given) → HasNoSearch given
    → (IsHuntSize (cost_rounds_of given) (cost_steps_of given) → ⊥) → IsFault (codes "cost") given BadSize
mean_refused given text is none no_search bad =
    let some = some_given text (first_of (codes "algorithm") given) is in
    (no_bad_variant given none, inr (inr (inr (inr (refl, inl (record { algorithm = some; no_variant = none; options = inr no_search }, inr (inr (no_search, bad))))))))

pub mean_model_refused : (given : Given) (text : Text) → Some text ≡ first_of (codes "algorithm") given → IsNone (first_of (codes "variant") given) → HasNoSearch given
    → AsksForNoModel given → IsFault (codes "cost") given BadSize
mean_model_refused given text is none no_search lacks =
    let some = some_given text (first_of (codes "algorithm") given) is in
    (no_bad_variant given none, inr (inr (inr (inr (refl, inl (record { algorithm = some; no_variant = none; options = inr no_search }, inl lacks))))))

pub options_refused : (given : Given) (rounds search : Bool) → IsNone (first_of (codes "variant") given) → rounds ≡ false → (rounds ≡ true ↔ HasNoRounds given) → search ≡ false → (search ≡ true ↔ HasNoSearch given)
    → HasBadWords (codes "cost") given
options_refused given rounds search none no_rounds is_rounds no_search is_search = inr (inr (inl (refl, inl (none, λ is. go is.options))))
  where
    go : (IsAlgorithmSearch given × HasNoRounds given) ⊎ HasNoSearch given → ⊥
    go (inl is) = false≢true (sym no_rounds ∙ is_rounds.1 is.1)
    go (inr is) = false≢true (sym no_search ∙ is_search.1 is)

-- ---- the search of `cost --variant`

pub variant_cost_refused : (given : Given) (fault : WordsFault) → IsSome (first_of (codes "variant") given) → HasNoRounds given → IsFaultOfSearch given fault → IsFault (codes "cost") given fault
variant_cost_refused given (Help text) some no_rounds h = absurd h
variant_cost_refused given (Refused text) some no_rounds h = absurd (no_both (first_of (codes "variant") given) h.0 some)
variant_cost_refused given BadVariant some no_rounds h = inr (inr (inr (inr (inr refl))), h)
variant_cost_refused given BadSize some no_rounds (good, inl bad) = (no_image_of (codes "cost") given refl refl good, inr (inr (inr (inr (refl, inr (no_rounds, some, inr bad))))))
variant_cost_refused given BadSize some no_rounds (good, inr bad) = absurd (good (some, inr bad.0.algorithm))
variant_cost_refused given Unreadable some no_rounds h = absurd h
variant_cost_refused given OutOfMemory some no_rounds h = tt

pub variant_model_refused : (given : Given) (args : ExploreArgs) → IsSome (first_of (codes "variant") given) → IsExplore given args → HasNoRounds given → AsksForNoModel given → IsFault (codes "cost") given BadSize
variant_model_refused given args some h no_rounds lacks = (
  no_image_of (codes "cost") given refl refl (variant_asked given args.variant h.variant h.no_algorithm),
  inr (inr (inr (inr (refl, inr (no_rounds, some, inl lacks))))),
)

-- an algorithm beside a variant, or no variant of this name
pub beside_refused : (given : Given) → IsSome (first_of (codes "variant") given) → IsSome (first_of (codes "algorithm") given) → IsFault (codes "cost") given BadVariant
beside_refused given some algorithm = inr (inr (inr (inr (inr refl))), (some, inr algorithm))

pub named_refused : (given : Given) → IsSome (first_of (codes "variant") given) → AsksForNone [] given → IsFault (codes "cost") given BadVariant
named_refused given some lacks = inr (inr (inr (inr (inr refl))), (some, inl lacks))

pub variant_options_refused : (given : Given) (variant : Variant) (rounds : Bool) → IsSome (first_of (codes "variant") given) → IsNone (first_of (codes "algorithm") given) → AsksFor [] given variant
    → rounds ≡ false → (rounds ≡ true ↔ HasNoRounds given) → HasBadWords (codes "cost") given
variant_options_refused given variant rounds some none asked no_rounds is_rounds =
    inr (inr (inl (refl, inr (some, variant_asked given variant asked none, λ is. false≢true (sym no_rounds ∙ is_rounds.1 is)))))
