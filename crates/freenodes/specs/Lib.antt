pub mod FreeNodes
