use Rattle.cp_theory.specs.AuthenticationTest.{is_whole}
use Rattle.cp_theory.proofs.OpenedBundle.{is_bundle, text_not_outside, text_is_no_pair, encryption_is_no_pair, text_not_created, encryption_not_created, released, decrypted, encrypted}
use Rattle.cp_theory.proofs.authentication.opened_text_example.Goals as goal

pub returns-clause-bundle : goal.returns-clause-bundle
returns-clause-bundle c = is_bundle

pub returns-clause-text_inside : goal.returns-clause-text_inside
returns-clause-text_inside c = text_not_outside

pub returns-clause-text_outside : goal.returns-clause-text_outside
returns-clause-text_outside c = is_whole

pub returns-clause-encryption_outside : goal.returns-clause-encryption_outside
returns-clause-encryption_outside c = is_whole

pub returns-clause-text_is_no_pair : goal.returns-clause-text_is_no_pair
returns-clause-text_is_no_pair c = text_is_no_pair

pub returns-clause-encryption_is_no_pair : goal.returns-clause-encryption_is_no_pair
returns-clause-encryption_is_no_pair c = encryption_is_no_pair

pub returns-clause-text_not_created : goal.returns-clause-text_not_created
returns-clause-text_not_created c = text_not_created

pub returns-clause-encryption_not_created : goal.returns-clause-encryption_not_created
returns-clause-encryption_not_created c = encryption_not_created

pub returns-clause-released : goal.returns-clause-released
returns-clause-released c = released

pub returns-clause-decrypted : goal.returns-clause-decrypted
returns-clause-decrypted c = decrypted

pub returns-clause-encrypted : goal.returns-clause-encrypted
returns-clause-encrypted c = encrypted
