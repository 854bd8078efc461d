-- How deep the objects of mends nest.
use Rattle.std.proofs.Common.{◌≤◌, ℕ, List, [], ◌∷◌, String, arith}
use Rattle.std.specs.Global.{Global}
use Rattle.answer_mends.specs.declared.judged_offers.Offer.{Offer}
use Rattle.answer_mends.specs.declared.judging.Extent.{Extent}
use Rattle.answer_mends.specs.declared.judging.Extent.TheVariants.{Whole, Part}
use Rattle.answer_mends.specs.Json.{left_json, mends_json, nothing_json, offer_json, offers_json, sentences_json}
use Rattle.json.specs.Json.{max_depth}
use Rattle.json.specs.Tree.{depth, items_depth}
use Rattle.model.specs.declared.abs.Refusal.{Refusal}

left_nests : (extent : Extent) → depth (left_json extent) ≤ 1
left_nests Whole = omega arith
left_nests (Part left) = omega arith

sentences_nest : (sentences : List (String Global)) → items_depth (sentences_json sentences) ≤ 0
sentences_nest [] = omega arith
sentences_nest (sentence ∷ sentences) = omega (arith, sentences_nest sentences)

offer_nests : (offer : Offer) → depth (offer_json offer) ≤ 2
offer_nests offer =
    omega (arith, left_nests offer.extent, sentences_nest offer.sentences.items)

offers_nest : (offers : List Offer) → items_depth (offers_json offers) ≤ 2
offers_nest [] = omega arith
offers_nest (offer ∷ offers) = omega (arith, offer_nests offer, offers_nest offers)

pub nothing_nests : (file : List ℕ) (tries : ℕ) → depth (nothing_json file tries) ≤ max_depth
nothing_nests file tries = omega arith

pub mends_nest : (file : List ℕ) (tries : ℕ) (refusal : Refusal) (offers : List Offer)
    → depth (mends_json file tries refusal offers) ≤ max_depth
mends_nest file tries refusal offers = omega (arith, offers_nest offers)
