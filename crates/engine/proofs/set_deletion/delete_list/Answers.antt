-- `engine::set_deletion::delete_list` meets its contract. Assumes nothing.
use borrow.Author.Rules.{rules}
use Rattle.engine.proofs.Listing.{list_frame_asks, list_frame_replies, list_asks, list_replies, list_fine, listed_through}
use Rattle.engine.proofs.set_deletion.delete_list.Goals as goal

pub refuse_list-used-requires : goal.refuse_list-used-requires
refuse_list-used-requires c = (search rules, search list_frame_asks, search rules)

pub returns-in-Err : goal.returns-in-Err
returns-in-Err c = search list_frame_replies

pub refuse_list-used-requires-in-Err-list_fault : goal.refuse_list-used-requires-in-Err-list_fault
refuse_list-used-requires-in-Err-list_fault c = (search rules, search list_asks, search rules)

pub returns-in-Err-list_fault : goal.returns-in-Err-list_fault
returns-in-Err-list_fault c = search list_replies

pub remove_listed-requires : goal.remove_listed-requires
remove_listed-requires c = search list_fine

pub returns : goal.returns
returns c = search listed_through
